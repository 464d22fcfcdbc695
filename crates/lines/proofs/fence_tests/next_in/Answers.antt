-- `next_in` meets its contract. Assumes nothing.
use Rattle.lines.specs.ParagraphLaws.{next_rules}
use Rattle.lines.proofs.fence_tests.next_in.Goals as goal
use Rattle.lines.proofs.fence_tests.next_in.Goals.{then-n-src-via-then-n-src, then-n-src-via-else-n-src+then-src-n, then-n-src-via-else-n-src+else-src-n+then-fence_opens_line}

pub returns-then-q-src : goal.returns-then-q-src
returns-then-q-src c = search next_rules

pub returns-then-src-q : goal.returns-then-src-q
returns-then-src-q c = search next_rules

pub returns-then-n-src : goal.returns-then-n-src
returns-then-n-src c = elim c.then-n-src.branch [
  | then-n-src-via-then-n-src w ↦ search next_rules
  | then-n-src-via-else-n-src+then-src-n w ↦ search next_rules
  | then-n-src-via-else-n-src+else-src-n+then-fence_opens_line w ↦ search next_rules
]

pub loop-g-preserved : goal.loop-g-preserved
loop-g-preserved c = search next_rules
