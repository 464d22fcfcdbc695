-- `run_within` meets its contract: the front before the end is searched. Assumes nothing.
use Rattle.std.proofs.Common.{rules}
use Rattle.search.specs.SearchLaws.{front_same}
use Rattle.search.proofs.run_within.Goals as goal

pub returns : goal.returns
returns c = search (rules, front_same)
