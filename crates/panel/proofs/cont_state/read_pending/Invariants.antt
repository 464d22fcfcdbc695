-- `read_pending` meets its contract: a loop that fills an array. Assumes nothing.
use Prim.Native.Nat.{◌-◌}
use Rattle.cells.specs.Bytes.{cells}
use Rattle.cells.specs.ByteLaws.{Fills}
use Rattle.panel.specs.ContState.{pending_cell}
use Rattle.panel.proofs.cont_state.read_pending.Given as goal

abbrev pub invariant-loop-i : goal.invariant-loop-i
invariant-loop-i l = Fills (pending_cell (cells l.run)) 32 l.initial.pending l.pending l.i

abbrev pub decreases-loop-i : goal.decreases-loop-i
decreases-loop-i l = 32 - l.i
