-- `Form::ends` meets its contract: a loop that finds one end after the other. Assumes nothing.
use Rattle.stored.specs.FormLaws.{Parting}
use Rattle.stored.proofs.form.Form.ends.Given as goal

abbrev pub invariant-loop-i : goal.invariant-loop-i
invariant-loop-i l = Parting l.fn.self l.asked l.place-items l.end l.i
