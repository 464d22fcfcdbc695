-- `put_item` meets its contract. Assumes nothing.
use Rattle.sheeting.specs.SheetingLaws.{put_past, put_there}
use Rattle.sheeting.proofs.put_item.Goals as goal

pub returns-then-item_room-n : goal.returns-then-item_room-n
returns-then-item_room-n c = search put_past

pub returns : goal.returns
returns c = search put_there
