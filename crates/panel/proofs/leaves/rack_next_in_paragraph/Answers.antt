-- `rack_next_in_paragraph` meets its contract. Assumes nothing.
use Rattle.cells.specs.ReplyLaws.{replied}
use Rattle.panel.proofs.leaves.rack_next_in_paragraph.Goals as goal

pub returns : goal.returns
returns c = search replied
