-- `digits_of` meets its contract: each turn sets the last digit of what is left. Assumes nothing.
use borrow.Author.Rules.{rules}
use Rattle.decimal.specs.WritingLaws.{filling_first, filling_again, filling_end}
use Rattle.decimal.proofs.digits_of.Goals as goal

pub loop-i-init : goal.loop-i-init
loop-i-init c = search (filling_first, rules)

pub loop-i-preserved : goal.loop-i-preserved
loop-i-preserved c = search filling_again

pub returns : goal.returns
returns c = search filling_end
