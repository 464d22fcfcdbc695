-- `check` meets its contract: a loop that goes from object to object. Assumes nothing.
use borrow.Author.Rules.{rules}
use Rattle.json_file.specs.WalkLaws.{walks_less}
use Rattle.json_file.specs.CheckLaws.{check_rules, checks_few, checks_within}
use Rattle.json_file.proofs.check.check.Goals as goal

pub loop-a-init : goal.loop-a-init
loop-a-init c = search check_rules

pub next_object-requires : goal.next_object-requires
next_object-requires c = search (rules, checks_within)

pub overflow_add-n : goal.overflow_add-n
overflow_add-n c = search (rules, checks_few, checks_within)

pub loop-a-smaller : goal.loop-a-smaller
loop-a-smaller c = search walks_less

pub loop-a-preserved : goal.loop-a-preserved
loop-a-preserved c = search check_rules

pub returns-in-Bad : goal.returns-in-Bad
returns-in-Bad c = search check_rules

pub returns-in-Over : goal.returns-in-Over
returns-in-Over c = search check_rules
