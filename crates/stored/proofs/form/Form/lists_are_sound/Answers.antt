-- `Form::lists_are_sound` meets its contract: a test of each list. Assumes nothing.
use Rattle.std.proofs.Common.{rules, refl}
use Rattle.std.proofs.lemmas.Iterator.{YieldsList-from_range}
use Rattle.std.proofs.lemmas.Iterator.Search.{all_from_yields_List}
use Rattle.stored.specs.Form.{list_sound}
use Rattle.stored.proofs.form.Form.lists_are_sound.Goals as goal

pub returns : goal.returns
returns c = record {
  answer = all_from_yields_List (list_sound c.args.self c.args.asked.now c.args.question) _ _ _ c.all.ensures.ran (YieldsList-from_range 0 7 7 refl refl) (λ x b q k. search rules);
}
