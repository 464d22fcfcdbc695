-- `fence_close_scan` meets its contract. Assumes nothing.
use Rattle.lines.specs.FenceLaws.{close_rules}
use Rattle.lines.proofs.fence_tests.fence_close_scan.Goals as goal

pub returns-then-q-src : goal.returns-then-q-src
returns-then-q-src c = search close_rules

pub loop-g-preserved-then-not-line_start : goal.loop-g-preserved-then-not-line_start
loop-g-preserved-then-not-line_start c = search close_rules

pub returns-then-fence_closes : goal.returns-then-fence_closes
returns-then-fence_closes c = search close_rules

pub loop-g-preserved : goal.loop-g-preserved
loop-g-preserved c = search close_rules
