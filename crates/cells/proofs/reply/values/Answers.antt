-- `values` meets its contract. Assumes nothing.
use Rattle.cells.specs.ReplyLaws.{reply_short, reply_values}
use Rattle.cells.proofs.reply.values.Goals as goal

pub returns-then-room_of-all : goal.returns-then-room_of-all
returns-then-room_of-all c = search reply_short

pub returns : goal.returns
returns c = search reply_values
