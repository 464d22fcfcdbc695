-- `put` meets its contract. Assumes nothing.
use Rattle.cells.specs.ReplyLaws.{laid_region}
use Rattle.amending.proofs.rows.put.Goals as goal

pub returns : goal.returns
returns c = search laid_region
