-- `line_start` meets its contract. Assumes nothing.
use Rattle.std.proofs.Common.{rules}
use Rattle.search.specs.SearchLaws.{start_told}
use Rattle.search.specs.Search.{line_start}
use Rattle.search.proofs.line_start.Goals as goal

pub returns-then-p-eq0 : goal.returns-then-p-eq0
unfolding line_start
returns-then-p-eq0 c = search rules

pub returns-else-p-eq0 : goal.returns-else-p-eq0
returns-else-p-eq0 c = search start_told
