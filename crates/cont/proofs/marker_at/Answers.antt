-- `marker_at` meets its contract. Assumes nothing.
use Rattle.cont.specs.MarkLaws.{mark_here, mark-failed}
use Rattle.cont.proofs.marker_at.Goals as goal

pub returns-then-p-le : goal.returns-then-p-le
returns-then-p-le c = search mark_here

pub returns-else-p-le : goal.returns-else-p-le
returns-else-p-le c = search mark-failed
