-- `is_digit` meets its contract. Assumes nothing.
use Rattle.std.proofs.Common.{rules}
use Rattle.search.specs.Search.{digit}
use Rattle.search.proofs.is_digit.Goals as goal

pub returns : goal.returns
unfolding digit
returns c = search rules
