-- `put_regions` meets its contract. Assumes nothing.
use Prim.Native.Nat.{◌-◌}
use Rattle.listing.specs.HeldLaws.{Rowing}
use Rattle.common.specs.Entry.{wide}
use Rattle.listing.proofs.tables.put_regions.Given as goal

abbrev pub invariant-loop-i : goal.invariant-loop-i
invariant-loop-i l = Rowing 82 wide (λ r. r) l.list l.count l.n l.initial.out l.i l.out l.k

abbrev pub decreases-loop-i : goal.decreases-loop-i
decreases-loop-i l = l.count - l.i
