-- `read_fence` meets its contract. Assumes nothing.
use Rattle.panel.specs.StateLaws.{fence_read}
use Rattle.panel.proofs.states.read_fence.Goals as goal

pub returns : goal.returns
returns c = search fence_read
