-- `SearchBytes::with` meets its contract. Assumes nothing.
use Rattle.rules.specs.ColumnLaws.{with_full, with_held, with_more}
use Rattle.rules.proofs.search_bytes.SearchBytes.with.Goals as goal

pub returns-then-n-ge-MAX_NEEDLES : goal.returns-then-n-ge-MAX_NEEDLES
returns-then-n-ge-MAX_NEEDLES c = search with_full

pub returns-then-is_one_of : goal.returns-then-is_one_of
returns-then-is_one_of c = search with_held

pub returns : goal.returns
returns c = search with_more
