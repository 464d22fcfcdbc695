-- `rack_numbered_new` meets its contract. Assumes nothing.
use Rattle.panel.specs.StateLaws.{made_numbered}
use Rattle.panel.proofs.scanners.rack_numbered_new.Goals as goal

pub returns : goal.returns
returns c = search made_numbered
