-- `lay_numbers` meets its contract: a loop that lays numbers. Assumes nothing.
use Rattle.cells.specs.ByteLaws.{lays_first, lays_room, lays_again, lays_same, lays_all}
use Rattle.cells.proofs.reply.lay_numbers.Goals as goal

pub loop-i-init : goal.loop-i-init
loop-i-init c = search lays_first

pub lay_number-requires : goal.lay_number-requires
lay_number-requires c = search lays_room

pub loop-i-preserved : goal.loop-i-preserved
loop-i-preserved c = search lays_again

pub shape_of-out : goal.shape_of-out
shape_of-out c = search lays_same

pub returns : goal.returns
returns c = search lays_all
