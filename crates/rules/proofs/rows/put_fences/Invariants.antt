-- `put_fences` meets its contract: rules are laid from the last to the first. Assumes nothing.
use Rattle.rules.specs.Rows.{fencer}
use Rattle.rules.specs.RowLaws.{Laying}
use Rattle.rules.proofs.rows.put_fences.Given as goal

abbrev pub invariant-loop-i : goal.invariant-loop-i
invariant-loop-i l = Laying l.fences fencer l.initial.rows l.rows l.i
