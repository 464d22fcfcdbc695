-- `amend_columns` meets its contract. Assumes nothing.
use Rattle.amend.specs.AmendedLaws.{ready_told}
use Rattle.amending.specs.AmendingLaws.{bytes_refused, bytes_settled}
use Rattle.amending.proofs.amend_columns.Goals as goal

pub with_columns-requires : goal.with_columns-requires
with_columns-requires c = search ready_told

pub returns-in-Err : goal.returns-in-Err
returns-in-Err c = search bytes_refused

pub returns-in-Ok : goal.returns-in-Ok
returns-in-Ok c = search bytes_settled
