-- `fence_closes` meets its contract. Assumes nothing.
use Rattle.lines.specs.FenceLaws.{closes-failed, closes-rest}
use Rattle.lines.proofs.fence_tests.fence_closes.Goals as goal

pub returns-then-run_count-count : goal.returns-then-run_count-count
returns-then-run_count-count c = search closes-rest

pub returns-else-run_count-count : goal.returns-else-run_count-count
returns-else-run_count-count c = search closes-failed
