-- `number` meets its contract. Assumes nothing.
use Rattle.cells.specs.ReplyLaws.{reply_value, reply_no_value}
use Rattle.cells.proofs.reply.number.Goals as goal

pub returns-in-Ok : goal.returns-in-Ok
returns-in-Ok c = search reply_value

pub returns-in-Err : goal.returns-in-Err
returns-in-Err c = search reply_no_value
