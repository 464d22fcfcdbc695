-- `rack_find_line_end` meets its contract. Assumes nothing.
use Rattle.cells.specs.ReplyLaws.{replied}
use Rattle.panel.proofs.leaves.rack_find_line_end.Goals as goal

pub returns : goal.returns
returns c = search replied
