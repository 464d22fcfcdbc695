-- `Gathered::with` meets its contract: all places used, a byte that came before, and a new one. Assumes nothing.
use borrow.Author.Rules.{rules}
use Rattle.rules.specs.RecordLaws.{rule_full, rule_held, rule_more}
use Rattle.rules.proofs.records.Gathered.with.Goals as goal

pub returns-then-n-ge256 : goal.returns-then-n-ge256
returns-then-n-ge256 c = search (rule_full, rules)

pub returns-then-is_one_of : goal.returns-then-is_one_of
returns-then-is_one_of c = search (rule_held, rules)

pub returns : goal.returns
returns c = search (rule_more, rules)
