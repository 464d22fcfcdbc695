-- `write_items` meets its contract: a loop of turns that writes. Assumes nothing.
use Rattle.sheet.specs.ShowLaws.{turn_is, ready_hidden, ready_shown}
use Rattle.sheet.specs.LeftLaws.{write_first, write_count, write_list, write_hidden, write_long, less_hidden, less_shown}
use Rattle.sheeting.specs.Sheeting.{item_bytes}
use Rattle.sheeting.specs.SheetingLaws.{item_size, write_item}
use Rattle.listed.proofs.write_items.Goals as goal

pub loop-w-init : goal.loop-w-init
loop-w-init c = search (write_first item_bytes 20 item_size)

pub shape_of-out-in-End : goal.shape_of-out-in-End
shape_of-out-in-End c = search (write_long item_bytes 20 item_size)

pub returns-in-End : goal.returns-in-End
returns-in-End c = let t = turn_is _ _ _ _ _ _ c.loop-w.invariant.1 c.turn-t.ensures in search (write_count item_bytes 20 item_size, write_list item_bytes 20 item_size)

pub loop-w-smaller-in-Hidden : goal.loop-w-smaller-in-Hidden
loop-w-smaller-in-Hidden c = let t = turn_is _ _ _ _ _ _ c.loop-w.invariant.1 c.turn-t.ensures in search less_hidden

pub loop-w-preserved-in-Hidden : goal.loop-w-preserved-in-Hidden
loop-w-preserved-in-Hidden c = let t = turn_is _ _ _ _ _ _ c.loop-w.invariant.1 c.turn-t.ensures in search (write_hidden item_bytes 20 item_size, ready_hidden)

pub loop-w-smaller : goal.loop-w-smaller
loop-w-smaller c = let t = turn_is _ _ _ _ _ _ c.loop-w.invariant.1 c.turn-t.ensures in search less_shown

pub loop-w-preserved : goal.loop-w-preserved
loop-w-preserved c = let t = turn_is _ _ _ _ _ _ c.loop-w.invariant.1 c.turn-t.ensures in search (write_item, ready_shown)
