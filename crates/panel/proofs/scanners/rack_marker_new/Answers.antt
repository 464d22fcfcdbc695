-- `rack_marker_new` meets its contract. Assumes nothing.
use Rattle.panel.specs.StateLaws.{made_marker}
use Rattle.panel.proofs.scanners.rack_marker_new.Goals as goal

pub returns : goal.returns
returns c = search made_marker
