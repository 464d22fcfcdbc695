-- `found` meets its contract. Assumes nothing.
use Rattle.cells.specs.ReplyLaws.{reply_unfound}
use Rattle.cells.proofs.reply.found.Goals as goal

pub returns-in-Err : goal.returns-in-Err
returns-in-Err c = search reply_unfound
