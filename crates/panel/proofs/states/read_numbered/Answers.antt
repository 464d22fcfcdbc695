-- `read_numbered` meets its contract. Assumes nothing.
use Rattle.panel.specs.StateLaws.{numbered-read}
use Rattle.panel.proofs.states.read_numbered.Goals as goal

pub returns : goal.returns
returns c = search numbered-read
