-- `nine_before` meets its contract: a loop that walks back, and adds. Assumes nothing.
use Rattle.block_numbered.specs.DigitLaws.{walking_low, walking_mul, walking_add, walking_rules}
use Rattle.block_numbered.proofs.nine_before.Goals as goal

pub returns-then-p-src : goal.returns-then-p-src
returns-then-p-src c = search walking_rules

pub loop-k-init : goal.loop-k-init
loop-k-init c = search walking_rules

pub overflow_sub-count : goal.overflow_sub-count
overflow_sub-count c = search walking_low

pub returns-then-count-ge9 : goal.returns-then-count-ge9
returns-then-count-ge9 c = search walking_rules

pub overflow_mul-number : goal.overflow_mul-number
overflow_mul-number c = search walking_mul

pub overflow_add-number : goal.overflow_add-number
overflow_add-number c = search walking_add

pub loop-k-preserved : goal.loop-k-preserved
loop-k-preserved c = search walking_rules

pub returns-else-is_digit : goal.returns-else-is_digit
returns-else-is_digit c = search walking_rules

pub returns : goal.returns
returns c = search walking_rules
