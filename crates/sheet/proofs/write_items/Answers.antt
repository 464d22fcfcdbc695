-- `write_items` meets its contract: a loop of turns that writes. Assumes nothing.
use Rattle.sheet.specs.Sheet.{five}
use Rattle.sheet.specs.SheetLaws.{five-numbers}
use Rattle.sheet.specs.ShowLaws.{turn_is, ready_hidden, ready_shown}
use Rattle.sheet.specs.LeftLaws.{write_first, write_count, write_list, write_hidden, write_room, write_shown, write_long, less_hidden, less_shown}
use Rattle.sheet.proofs.write_items.Goals as goal

pub loop-w-init : goal.loop-w-init
loop-w-init g c = search (write_first five 5 five-numbers)

pub shape_of-out-in-End : goal.shape_of-out-in-End
shape_of-out-in-End g c = search (write_long five 5 five-numbers)

pub returns-in-End : goal.returns-in-End
returns-in-End g c = let t = turn_is _ _ _ _ _ _ c.loop-w.invariant.1 c.turn-t.ensures in search (write_count five 5 five-numbers, write_list five 5 five-numbers)

pub loop-w-smaller-in-Hidden : goal.loop-w-smaller-in-Hidden
loop-w-smaller-in-Hidden g c = let t = turn_is _ _ _ _ _ _ c.loop-w.invariant.1 c.turn-t.ensures in search less_hidden

pub loop-w-preserved-in-Hidden : goal.loop-w-preserved-in-Hidden
loop-w-preserved-in-Hidden g c = let t = turn_is _ _ _ _ _ _ c.loop-w.invariant.1 c.turn-t.ensures in search (write_hidden five 5 five-numbers, ready_hidden)

pub put_item-n-requires : goal.put_item-n-requires
put_item-n-requires g c = let t = turn_is _ _ _ _ _ _ c.loop-w.invariant.1 c.turn-t.ensures in search (write_room five 5 five-numbers)

pub loop-w-smaller : goal.loop-w-smaller
loop-w-smaller g c = let t = turn_is _ _ _ _ _ _ c.loop-w.invariant.1 c.turn-t.ensures in search less_shown

pub loop-w-preserved : goal.loop-w-preserved
loop-w-preserved g c = let t = turn_is _ _ _ _ _ _ c.loop-w.invariant.1 c.turn-t.ensures in search (write_shown five 5 five-numbers, ready_shown)
