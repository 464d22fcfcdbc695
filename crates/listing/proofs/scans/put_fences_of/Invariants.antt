-- `put_fences_of` meets its contract. Assumes nothing.
use Prim.Native.Nat.{◌-◌}
use Rattle.listing.specs.Going.{FencesGoing}
use Rattle.listing.proofs.scans.put_fences_of.Given as goal

abbrev pub invariant-loop-s : goal.invariant-loop-s
invariant-loop-s l = FencesGoing l.byte l.text l.n l.initial.out l.state l.out l.k

abbrev pub decreases-loop-s : goal.decreases-loop-s
decreases-loop-s l = 1000000 - l.k
