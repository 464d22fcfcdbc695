-- `are_bytes` meets its contract: a test of each place. Assumes nothing.
use Rattle.std.proofs.Common.{rules, length, refl, arith}
use Rattle.std.proofs.lemmas.Iterator.{YieldsList-from_range}
use Rattle.std.proofs.lemmas.Iterator.Search.{all_from_yields_List}
use Rattle.stored.specs.Parts.{is_byte}
use Rattle.stored.proofs.parts.are_bytes.Goals as goal

pub returns : goal.returns
returns c = record {
  answer =
      all_from_yields_List (is_byte c.args.run.now c.args.pairs) _ _ _ c.all.ensures.ran (YieldsList-from_range 0 (length c.args.run.now) _ refl (omega arith)) (λ x b q k. search rules);
}
