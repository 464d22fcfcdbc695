-- `digit_count` meets its contract. Assumes nothing.
use Rattle.decimal.specs.WritingLaws.{counted}
use Rattle.decimal.proofs.digit_count.Goals as goal

pub returns : goal.returns
returns c = search counted
