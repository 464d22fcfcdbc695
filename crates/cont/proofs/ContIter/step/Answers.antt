-- `step` meets its contract. Assumes nothing.
use Rattle.cont.specs.StepLaws.{step_drains, step_closes, step_ends}
use Rattle.cont.proofs.ContIter.step.Goals as goal

pub returns-then-self : goal.returns-then-self
returns-then-self c = search step_drains

pub returns-then-count-gt0 : goal.returns-then-count-gt0
returns-then-count-gt0 c = search step_closes

pub returns : goal.returns
returns c = search step_ends
