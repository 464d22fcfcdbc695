-- `read_marker` meets its contract. Assumes nothing.
use Rattle.panel.specs.StateLaws.{marker-read}
use Rattle.panel.proofs.states.read_marker.Goals as goal

pub returns : goal.returns
returns c = search marker-read
