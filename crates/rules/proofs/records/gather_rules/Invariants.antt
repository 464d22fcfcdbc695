-- `gather_rules` meets its contract: a loop that gathers. Assumes nothing.
use Rattle.rules.specs.RecordLaws.{Gathering}
use Rattle.rules.specs.ByteRules.{fence_rules_of}
use Rattle.rules.proofs.records.gather_rules.Given as goal

abbrev pub invariant-loop-i : goal.invariant-loop-i
invariant-loop-i l = Gathering (fence_rules_of l.rules) l.all l.i
