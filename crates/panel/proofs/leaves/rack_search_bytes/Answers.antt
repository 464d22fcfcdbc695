-- `rack_search_bytes` meets its contract. Assumes nothing.
use Rattle.panel.specs.LeafLaws.{search_reply}
use Rattle.panel.proofs.leaves.rack_search_bytes.Goals as goal

pub returns : goal.returns
returns c = search search_reply
