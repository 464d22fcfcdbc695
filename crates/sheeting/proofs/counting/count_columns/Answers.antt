-- `count_columns` meets its contract. Assumes nothing.
use Rattle.cells.specs.PouredLaws.{count_long, count_bad, count_good}
use Rattle.sheeting.proofs.counting.count_columns.Goals as goal

pub returns-then-text-gt-MAX_INPUT_LEN : goal.returns-then-text-gt-MAX_INPUT_LEN
returns-then-text-gt-MAX_INPUT_LEN c = search count_long

pub returns-then-differ : goal.returns-then-differ
returns-then-differ c = search count_bad

pub returns : goal.returns
returns c = search count_good
