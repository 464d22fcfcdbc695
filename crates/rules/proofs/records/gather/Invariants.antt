-- `gather` meets its contract: what is gathered with the rules from i on is what the whole run makes. Assumes nothing.
use Rattle.rules.specs.RecordLaws.{Gathering}
use Rattle.rules.proofs.records.gather.Given as goal

abbrev pub invariant-loop-i : goal.invariant-loop-i
invariant-loop-i l = Gathering l.rules l.all l.i
