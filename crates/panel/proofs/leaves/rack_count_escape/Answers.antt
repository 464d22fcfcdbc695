-- `rack_count_escape` meets its contract. Assumes nothing.
use Rattle.cells.specs.ReplyLaws.{replied}
use Rattle.panel.proofs.leaves.rack_count_escape.Goals as goal

pub returns : goal.returns
returns c = search replied
