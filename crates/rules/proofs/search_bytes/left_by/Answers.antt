-- `left_by` meets its contract. Assumes nothing.
use Rattle.rules.specs.LeftOutLaws.{left-kept, left_once}
use Rattle.rules.proofs.search_bytes.left_by.Goals as goal

pub returns-then-is_one_of : goal.returns-then-is_one_of
returns-then-is_one_of c = search left-kept

pub returns : goal.returns
returns c = search left_once
