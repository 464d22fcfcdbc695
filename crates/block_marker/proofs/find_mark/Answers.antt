-- `find_mark` meets its contract: the place itself, and then the search. Assumes nothing.
use Rattle.search.specs.SearchLaws.{told_rules}
use Rattle.block_marker.proofs.find_mark.Goals as goal

pub returns-then-is_one_of : goal.returns-then-is_one_of
returns-then-is_one_of c = search told_rules
