-- `with_columns` meets its contract. Assumes nothing.
use Rattle.amending.specs.AmendingLaws.{settled_columns}
use Rattle.amending.proofs.with_columns.Goals as goal

pub returns : goal.returns
returns c = search settled_columns
