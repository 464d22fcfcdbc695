-- `is_blank` meets its contract. Assumes nothing.
use Rattle.std.proofs.Common.{rules}
use Rattle.search.specs.Search.{either}
use Rattle.search.proofs.is_blank.Goals as goal

pub returns-then-x-sep : goal.returns-then-x-sep
unfolding either
returns-then-x-sep c = search rules

pub returns-else-x-sep : goal.returns-else-x-sep
unfolding either
returns-else-x-sep c = search rules
