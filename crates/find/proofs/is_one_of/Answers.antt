-- `is_one_of` meets its contract. Assumes nothing.
use Rattle.std.proofs.Common.{rules, eqb, take, ap, ◌∙◌}
use borrow.Author.Tests.{tests}
use Rattle.std.proofs.lemmas.Iterator.{YieldsList-from_slice}
use Rattle.std.proofs.lemmas.Iterator.Search.{any_from_yields_List}
use Rattle.search.specs.Search.{one_of}
use Rattle.find.specs.NeedleLaws.{one_any, taken}
use Rattle.find.proofs.is_one_of.Goals as goal

pub returns : goal.returns
returns c =
    record {
      answer =
          any_from_yields_List (λ y. eqb c.args.x y) _ _ c.any.result c.any.ensures.ran (YieldsList-from_slice (take c.min.result c.args.needles.now) cc) (λ x b q k. search (rules, tests))
          ∙ one_any _ c.args.x
          ∙ ap (λ l. one_of l c.args.x) (taken c.args.needles.now c.args.n c.min.result c.min.ensures);
    }
