-- `class` meets its contract: the rule of the class table, by one test over its 256 entries. Assumes nothing.
use Prim.Native.Nat.{◌<◌}
use Rattle.search.specs.Search.{one_of, digit}
use Rattle.common.specs.ClassLaws.{class_at}
use borrow.Author.Rules.{rules}
use Rattle.common.proofs.sets.class.Goals as goal

pub returns : goal.returns
unfolding one_of digit
returns c =
    let h : c.args.b < 256 = search rules in
    record { answer = rw class_at }
