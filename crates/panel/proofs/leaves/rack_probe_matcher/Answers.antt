-- `rack_probe_matcher` meets its contract. Assumes nothing.
use Rattle.panel.specs.LeafLaws.{probe_reply}
use Rattle.panel.proofs.leaves.rack_probe_matcher.Goals as goal

pub returns : goal.returns
returns c = search probe_reply
