-- `run_end` meets its contract: what is left of the text is searched. Assumes nothing.
use Rattle.std.proofs.Common.{rules}
use borrow.Author.Tests.{tests}
use Rattle.std.proofs.lemmas.Iterator.{YieldsList-from_slice}
use Rattle.std.proofs.lemmas.Iterator.Search.{position_from_yields_List}
use Rattle.search.specs.Search.{other, is}
use Rattle.search.specs.SearchLaws.{sought_left, sought_past}
use Rattle.search.proofs.run_end.Goals as goal

pub returns : goal.returns
unfolding is other
returns c =
    let o = position_from_yields_List (other (is c.args.b)) _ _ c.position-run.result c.position-run.ensures.ran (YieldsList-from_slice c.in-Some.rest.now cc) (λ x b q k. search (rules, tests)) in
    sought_left _ c.args.src.now c.in-Some.rest.now c.args.from (search rules) _ _ (search rules) o c.unwrap_or.ensures

pub returns-in_default : goal.returns-in_default
returns-in_default c = search (rules, sought_past)
