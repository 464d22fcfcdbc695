-- `leads_from` meets its contract: a loop that runs back by a test, down to a place. Assumes nothing.
use Rattle.common.specs.LaterLaws.{Looks}
use Rattle.common.proofs.items.leads_from.Given as goal

abbrev pub invariant-loop-at : goal.invariant-loop-at
invariant-loop-at l = Looks l.eol l.sep l.tab l.src l.p l.k l.at
