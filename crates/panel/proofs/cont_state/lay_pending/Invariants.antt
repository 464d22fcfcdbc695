-- `lay_pending` meets its contract: a loop that lays spans. Assumes nothing.
use Prim.Native.Nat.{◌-◌}
use Rattle.cells.specs.ByteLaws.{Lays}
use Rattle.common.specs.Refusals.{span_values}
use Rattle.panel.proofs.cont_state.lay_pending.Given as goal

abbrev pub invariant-loop-i : goal.invariant-loop-i
invariant-loop-i l = Lays span_values 2 l.pending 39 l.i l.initial.all l.all

abbrev pub decreases-loop-i : goal.decreases-loop-i
decreases-loop-i l = 32 - l.i
