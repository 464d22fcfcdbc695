-- `lacks_room` meets its contract. Assumes nothing.
use Rattle.cells.specs.ReplyLaws.{lacks-past, lacks_rest}
use Rattle.cells.proofs.reply.lacks_room.Goals as goal

pub returns-then-len-from : goal.returns-then-len-from
returns-then-len-from c = search lacks-past

pub returns : goal.returns
returns c = search lacks_rest
