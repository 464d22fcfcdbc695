-- `put_found` meets its contract. Assumes nothing.
use Prim.Native.Nat.{◌-◌}
use Rattle.listing.specs.Listing.{row_fields}
use Rattle.listing.specs.HeldLaws.{Rowing}
use Rattle.listing.proofs.tables.put_found.Given as goal

abbrev pub invariant-loop-i : goal.invariant-loop-i
invariant-loop-i l = Rowing 87 5 row_fields l.items l.count l.n l.initial.out l.i l.out l.k

abbrev pub decreases-loop-i : goal.decreases-loop-i
decreases-loop-i l = l.count - l.i
