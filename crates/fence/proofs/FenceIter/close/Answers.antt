-- `close` meets its contract. Assumes nothing.
use Rattle.fence.specs.Laws.{close_rules}
use Rattle.fence.proofs.FenceIter.close.Goals as goal
use Rattle.fence.proofs.FenceIter.close.Goals.{else-run_count-count-via-then-run_count-count+else-blank_within, else-run_count-count-via-else-run_count-count}

pub returns-then-q-src : goal.returns-then-q-src
returns-then-q-src c = search close_rules

pub loop-self-preserved-then-not-line_start : goal.loop-self-preserved-then-not-line_start
loop-self-preserved-then-not-line_start c = search close_rules

pub returns-then-blank_within : goal.returns-then-blank_within
returns-then-blank_within c = search close_rules

pub loop-self-preserved : goal.loop-self-preserved
loop-self-preserved c = elim c.else-run_count-count.branch [
  | else-run_count-count-via-then-run_count-count+else-blank_within w ↦ search close_rules
  | else-run_count-count-via-else-run_count-count w ↦ search close_rules
]
