-- `fence_region` meets its contract. Assumes nothing.
use Rattle.region.specs.StepLaws.{fence_closed, fence_unclosed}
use Rattle.region.proofs.fence_region.Goals as goal

pub returns-in-Some : goal.returns-in-Some
returns-in-Some c = search fence_closed

pub returns-in-None : goal.returns-in-None
returns-in-None c = search fence_unclosed
