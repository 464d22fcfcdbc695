-- `tested_place` meets its contract. Assumes nothing.
use borrow.Author.Rules.{rules}
use Rattle.feed.proofs.TestedLaws.{tested_low, tested_two}
use Rattle.feed.proofs.item.tested_place.Goals as goal

pub returns-then-item-lt2 : goal.returns-then-item-lt2
returns-then-item-lt2 c = search tested_low

pub returns : goal.returns
returns c = search (rules, tested_two)
