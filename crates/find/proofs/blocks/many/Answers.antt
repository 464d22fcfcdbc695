-- `many` meets its contract: a loop over blocks. Assumes nothing.
use borrow.Author.Rules.{rules}
use Rattle.find.specs.BlockLaws.{reach_first, reach_on, reach_hit}
use Rattle.find.proofs.blocks.many.Goals as goal

pub returns-then-len-from : goal.returns-then-len-from
returns-then-len-from c = search (reach_first, rules)

pub loop-i-init : goal.loop-i-init
loop-i-init c = search (rules, reach_first)

pub returns-then-m-lt32 : goal.returns-then-m-lt32
returns-then-m-lt32 c = search (reach_hit, rules)

pub loop-i-preserved : goal.loop-i-preserved
loop-i-preserved c = search (rules, reach_on)
