-- `mixed` meets its contract. Assumes nothing.
use Rattle.cells.specs.ReplyLaws.{mixed_short, mixed_values}
use Rattle.cells.proofs.reply.mixed.Goals as goal

pub returns-then-room_of-n : goal.returns-then-room_of-n
returns-then-room_of-n c = search mixed_short

pub returns : goal.returns
returns c = search mixed_values
