-- `put_frames` meets its contract. Assumes nothing.
use Prim.Native.Nat.{◌-◌}
use Rattle.listing.specs.Going.{FramesGoing}
use Rattle.listing.proofs.scans.put_frames.Given as goal

abbrev pub invariant-loop-s : goal.invariant-loop-s
invariant-loop-s l = FramesGoing l.text l.n l.initial.out l.state l.out l.k

abbrev pub decreases-loop-s : goal.decreases-loop-s
decreases-loop-s l = 1000000 - l.k
