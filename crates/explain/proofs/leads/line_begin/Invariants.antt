-- `line_begin` meets its contract: a loop that passes lines. Assumes nothing.
use Prim.Native.Nat.{◌-◌}
use Rattle.explain.proofs.WayLaws.{Seeking}
use Rattle.explain.proofs.leads.line_begin.Given as goal

abbrev pub invariant-loop : goal.invariant-loop
invariant-loop l = Seeking 10 l.text l.line l.a (l.line - l.counter)
