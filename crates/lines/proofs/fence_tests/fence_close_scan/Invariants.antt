-- `fence_close_scan` meets its contract. Assumes nothing.
use Prim.Native.Nat.{◌-◌}
use lib.ListN.{length}
use Rattle.lines.specs.Reader.{shuts}
use Rattle.lines.specs.FenceLaws.{Closes}
use Rattle.lines.proofs.fence_tests.fence_close_scan.Given as goal

abbrev pub invariant-loop-g : goal.invariant-loop-g
invariant-loop-g l = Closes (shuts l.g l.byte l.count l.src) (length l.src) l.from l.search

abbrev pub decreases-loop-g : goal.decreases-loop-g
decreases-loop-g l = length l.src - l.search
