-- `seen` meets its contract: a loop that filters. Assumes nothing.
use Prim.Native.Nat.{◌≤◌}
use Rattle.find.specs.Blocks.{of_three, Clear}
use Rattle.find.proofs.blocks.seen.Given as goal

abbrev pub invariant-loop-j : goal.invariant-loop-j
invariant-loop-j l = (l.j ≤ l.w) × Clear (of_three l.t) l.src l.i l.j l.any
