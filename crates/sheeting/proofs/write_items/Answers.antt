-- `write_items` meets its contract: a loop of turns that writes. Assumes nothing.
use Rattle.sheet.specs.LeftLaws.{write_first, write_count, write_list, write_hidden, write_long, less_hidden, less_shown}
use Rattle.sheeting.specs.Sheeting.{item_bytes}
use Rattle.sheeting.specs.SheetingLaws.{item_size, write_item, ready_first, ready_hidden, ready_shown}
use Rattle.sheeting.proofs.write_items.Goals as goal

pub loop-w-init : goal.loop-w-init
loop-w-init c = search (write_first item_bytes 20 item_size, ready_first)

pub shape_of-out-in-End : goal.shape_of-out-in-End
shape_of-out-in-End c = search (write_long item_bytes 20 item_size)

pub returns-in-End : goal.returns-in-End
returns-in-End c = search (write_count item_bytes 20 item_size, write_list item_bytes 20 item_size)

pub loop-w-smaller-in-Hidden : goal.loop-w-smaller-in-Hidden
loop-w-smaller-in-Hidden c = search less_hidden

pub loop-w-preserved-in-Hidden : goal.loop-w-preserved-in-Hidden
loop-w-preserved-in-Hidden c = search (write_hidden item_bytes 20 item_size, ready_hidden)

pub loop-w-smaller : goal.loop-w-smaller
loop-w-smaller c = search less_shown

pub loop-w-preserved : goal.loop-w-preserved
loop-w-preserved c = search (write_item, ready_shown)
