-- `lay_open` meets its contract: a loop that lays numbers. Assumes nothing.
use Prim.Native.Nat.{◌-◌}
use Rattle.cells.specs.ByteLaws.{Lays}
use Rattle.panel.specs.ContState.{single}
use Rattle.panel.proofs.cont_state.lay_open.Given as goal

abbrev pub invariant-loop-i : goal.invariant-loop-i
invariant-loop-i l = Lays single 1 l.open 6 l.i l.initial.all l.all

abbrev pub decreases-loop-i : goal.decreases-loop-i
decreases-loop-i l = 32 - l.i
