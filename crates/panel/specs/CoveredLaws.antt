-- Laws of the cursor over a list in bytes: the ways out of its entry. Assumes nothing.
use Rattle.std.specs.Prelude.{◌≡◌, List, [], ◌∷◌, ℕ, Err, None, Ok, Option, Result, Some}
use Rattle.std.proofs.Common.{sym, ◌∙◌}
use Rattle.std.proofs.Math.Path.{ap, subst}
use Rattle.search.specs.Promise.{Gives, Steps}
use Rattle.common.specs.Entry.{wide}
use Rattle.common.specs.Refusals.{Outcome, given, refused, number_of, told_found}
use Rattle.common.specs.RefusalLaws.{number_some}
use Rattle.common.specs.declared.refusal.Refusal.{Refusal}
use Rattle.cover.specs.Cursor.{cover_answer, cover_next}
use Rattle.cells.specs.Bytes.{cells}
use Rattle.cells.specs.Reply.{Replied}
use Rattle.panel.specs.Covered.{behind, covered}
use Rattle.cells.specs.ReplyLaws.{reply_refused}

-- ---- the entry's replies
module _ (list : List ℕ) (count index place : ℕ) (f : Result (Option ℕ) Refusal) (i : ℕ) (run run' : List ℕ) (n : ℕ) (q : Steps (cover_answer wide (cells list) count index place) (cover_next wide (cells list) count index place) (told_found f) i) where
  by_query : (o : Outcome) → behind i (told_found f) ≡ o → Replied o run run' n → Replied (covered list count index place) run run' n
  unfolding covered
  by_query o e d = subst (λ (y : Outcome). Replied y run run' n) (sym e ∙ ap (behind i) q.answer ∙ ap (λ (y : ℕ). behind y (cover_answer wide (cells list) count index place)) q.next) d

  pub covered-at : (v : ℕ) → f ≡ Ok (Some v) → Replied (given (i ∷ v ∷ [])) run run' n → Replied (covered list count index place) run run' n
  covered-at v e d = by_query (given (i ∷ v ∷ [])) (rw e) d

  pub covered_none : f ≡ (Ok None) → Replied (given (i ∷ [])) run run' n → Replied (covered list count index place) run run' n
  covered_none e d = by_query (given (i ∷ [])) (rw e) d

pub covered-refused : (list : List ℕ) (count index place : ℕ) (f : Result (Option ℕ) Refusal) (i : ℕ) (run : List ℕ) (n : ℕ) (r : Refusal) → f ≡ Err r → Steps (cover_answer wide (cells list) count index place) (cover_next wide (cells list) count index place) (told_found f) i
    → Gives (number_of r) n → Replied (covered list count index place) run run n
covered-refused list count index place f i run n r e q g = by_query list count index place f i run run n q (refused (number_of r)) (rw e (simp (number_some r))) (reply_refused r n run g)
