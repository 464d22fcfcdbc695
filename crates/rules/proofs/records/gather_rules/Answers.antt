-- `gather_rules` meets its contract: a loop that gathers. Assumes nothing.
use Rattle.rules.specs.RecordLaws.{gather-first}
use Rattle.rules.specs.RuleLaws.{rules_again, rules_all}
use Rattle.rules.proofs.records.gather_rules.Goals as goal

pub loop-i-init : goal.loop-i-init
loop-i-init c = search gather-first

pub loop-i-preserved : goal.loop-i-preserved
loop-i-preserved c = search rules_again

pub returns : goal.returns
returns c = search rules_all
