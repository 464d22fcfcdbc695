-- `read_digits` meets its contract: a loop that reads digits. Assumes nothing.
use Rattle.block_numbered.specs.DigitLaws.{reading_low, reading_mul, reading_add, reading_rules}
use Rattle.block_numbered.proofs.read_digits.Goals as goal

pub loop-i-init : goal.loop-i-init
loop-i-init c = search reading_rules

pub overflow_sub-i : goal.overflow_sub-i
overflow_sub-i c = search reading_low

pub returns-then-i-from-ge9 : goal.returns-then-i-from-ge9
returns-then-i-from-ge9 c = search reading_rules

pub overflow_mul-number : goal.overflow_mul-number
overflow_mul-number c = search reading_mul

pub overflow_add-number : goal.overflow_add-number
overflow_add-number c = search reading_add

pub loop-i-preserved : goal.loop-i-preserved
loop-i-preserved c = search reading_rules

pub returns-else-is_digit : goal.returns-else-is_digit
returns-else-is_digit c = search reading_rules

pub returns : goal.returns
returns c = search reading_rules
