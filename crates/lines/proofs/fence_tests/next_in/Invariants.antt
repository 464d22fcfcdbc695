-- `next_in` meets its contract. Assumes nothing.
use Prim.Native.Nat.{◌-◌}
use lib.ListN.{length}
use Rattle.lines.specs.Reader.{reader_in}
use Rattle.lines.specs.ParagraphLaws.{Nexts}
use Rattle.lines.proofs.fence_tests.next_in.Given as goal

abbrev pub invariant-loop-g : goal.invariant-loop-g
invariant-loop-g l = Nexts l.g.eol ((reader_in l.g l.fences).enters l.src) l.src l.needle l.from l.j

abbrev pub decreases-loop-g : goal.decreases-loop-g
decreases-loop-g l = length l.src - l.j
