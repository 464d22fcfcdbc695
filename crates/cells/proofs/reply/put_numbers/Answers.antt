-- `put_numbers` meets its contract. Assumes nothing.
use Rattle.cells.specs.ReplyLaws.{put_none, put_room, put_some}
use Rattle.cells.proofs.reply.put_numbers.Goals as goal

pub returns-else-not-lacks_room : goal.returns-else-not-lacks_room
returns-else-not-lacks_room c = search put_none

pub lay_numbers-requires : goal.lay_numbers-requires
lay_numbers-requires c = search put_room

pub returns-then-not-lacks_room : goal.returns-then-not-lacks_room
returns-then-not-lacks_room c = search put_some
