-- `copy_rows` meets its contract: a loop over rows that writes them moved. Assumes nothing.
use Rattle.amend.specs.RowLaws.{copying_first, copying_same, copying_end, start_moves, stop_moves, copying_room, copying_again}
use Rattle.amending.specs.WriteLaws.{listed_long}
use Rattle.amending.proofs.rows.copy_rows.Goals as goal

pub loop-i-init : goal.loop-i-init
loop-i-init c = search (copying_first, listed_long)

pub moved-start-requires : goal.moved-start-requires
moved-start-requires c = search start_moves

pub moved-end-requires : goal.moved-end-requires
moved-end-requires c = search stop_moves

pub put-n-requires : goal.put-n-requires
put-n-requires c = search copying_room

pub loop-i-preserved : goal.loop-i-preserved
loop-i-preserved c = search copying_again

pub shape_of-out : goal.shape_of-out
shape_of-out c = search copying_same

pub returns : goal.returns
returns c = search copying_end
