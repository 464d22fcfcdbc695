-- `amend` meets its contract. Assumes nothing.
use Rattle.amend.specs.AmendedLaws.{ready_told, amended_refused, amended_settled}
use Rattle.amend.proofs.amend.Goals as goal

pub settle-requires : goal.settle-requires
settle-requires c = search ready_told

pub returns-in-Err : goal.returns-in-Err
returns-in-Err c = search amended_refused

pub returns-in-Ok : goal.returns-in-Ok
returns-in-Ok c = search amended_settled
