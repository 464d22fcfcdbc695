-- `open_at` meets its contract. Assumes nothing.
use Rattle.fence.specs.Laws.{open_line_rules, start_fits, end_fits}
use Rattle.fence.proofs.FenceIter.open_at.Goals as goal
use Rattle.fence.proofs.FenceIter.open_at.Goals.{then-count-self-via-then-count-self, then-count-self-via-else-count-self+then-find_either-e}

pub returns-then-count-self : goal.returns-then-count-self
returns-then-count-self c = elim c.then-count-self.branch [
  | then-count-self-via-then-count-self w ↦ search open_line_rules
  | then-count-self-via-else-count-self+then-find_either-e w ↦ search open_line_rules
]

pub overflow_cast-result : goal.overflow_cast-result
overflow_cast-result c = search start_fits

pub overflow_cast-result-2 : goal.overflow_cast-result-2
overflow_cast-result-2 c = search end_fits

pub returns : goal.returns
returns c = search open_line_rules
