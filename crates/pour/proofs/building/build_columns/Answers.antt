-- `build_columns` meets its contract. Assumes nothing.
use Rattle.cells.specs.PouredLaws.{build_long, build_bad, build_good}
use Rattle.pour.proofs.building.build_columns.Goals as goal

pub returns-then-text-gt-MAX_INPUT_LEN : goal.returns-then-text-gt-MAX_INPUT_LEN
returns-then-text-gt-MAX_INPUT_LEN c = search build_long

pub returns-then-differ : goal.returns-then-differ
returns-then-differ c = search build_bad

pub returns : goal.returns
returns c = search build_good
