-- `digits_before` meets its contract. Assumes nothing.
use Rattle.block_numbered.specs.DigitLaws.{before_rules}
use Rattle.block_numbered.proofs.digits_before.Goals as goal

pub returns-then-n-lt9 : goal.returns-then-n-lt9
returns-then-n-lt9 c = search before_rules

pub returns-then-p-n : goal.returns-then-p-n
returns-then-p-n c = search before_rules

pub returns-then-is_digit : goal.returns-then-is_digit
returns-then-is_digit c = search before_rules

pub returns : goal.returns
returns c = search before_rules
