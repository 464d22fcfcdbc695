-- `run_before` meets its contract: the front before the place is walked from its end. Assumes nothing.
use Rattle.std.proofs.Common.{rules}
use borrow.Author.Tests.{tests}
use Rattle.std.proofs.lemmas.Iterator.Adapters.{YieldsList-from_rev_slice}
use Rattle.std.proofs.lemmas.Iterator.Consumers.{YieldsList-at, count_from_yields_List}
use Rattle.std.proofs.lemmas.Iterator.Search.{YieldsList-from_take_while}
use Rattle.search.specs.Search.{is}
use Rattle.search.specs.SearchLaws.{back_turned, backs_none}
use Rattle.search.proofs.run_before.Goals as goal

pub returns : goal.returns
unfolding is
returns c =
    let n =
    count_from_yields_List c.take_while.result c.count.result c.count.ensures.ran
    (YieldsList-from_take_while _ (is c.args.b) (YieldsList-at c.take_while.ensures.source (YieldsList-from_rev_slice c.in-Some.front.now cc)) c.take_while.ensures.closure c.take_while.ensures.done (λ x b q k. search (rules, tests))) in
    record { answer = back_turned _ c.args.src.now c.in-Some.front.now c.args.pos _ (search rules) (search rules) n }

pub returns-in_default : goal.returns-in_default
returns-in_default c = search (rules, backs_none)
