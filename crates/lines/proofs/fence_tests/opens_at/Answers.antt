-- `opens_at` meets its contract. Assumes nothing.
use Rattle.lines.specs.FenceLaws.{at_start, at_none}
use Rattle.lines.proofs.fence_tests.opens_at.Goals as goal

pub returns-then-line_start : goal.returns-then-line_start
returns-then-line_start c = search at_start

pub returns-else-line_start : goal.returns-else-line_start
returns-else-line_start c = search at_none
