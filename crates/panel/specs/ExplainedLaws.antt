-- Laws of the entry that explains a line: its ways out. Assumes nothing.
use Rattle.std.specs.Prelude.{◌≡◌, List, [], ◌∷◌, ℕ, Err, Ok, Result}
use Rattle.std.proofs.Common.{sym, ap, subst, ◌∙◌}
use Rattle.search.specs.Promise.{Gives}
use Rattle.common.specs.Refusals.{Outcome, given, number_of}
use Rattle.common.specs.declared.refusal.Refusal.{Refusal}
use Rattle.common.specs.declared.span.Span.{Span}
use Rattle.cells.specs.Reply.{Replied}
use Rattle.cells.specs.ReplyLaws.{reply_refused}
use Rattle.explain.specs.Reasons.{reason_values, told_explained}
use Rattle.explain.specs.declared.Reason.{Reason}
use Rattle.explain.specs.declared.Reason.TheVariants as reason

-- ---- a reason by its number
module _ (why : Reason) (run run' : List ℕ) (n : ℕ) where
  by_values : {e : Reason} → why ≡ e → Replied (given (reason_values e)) run run' n → Replied (given (reason_values why)) run run' n
  by_values f d = subst (λ (e : Reason). Replied (given (reason_values e)) run run' n) (sym f) d

  pub reason_0 : why ≡ reason.OnSheet → Replied (given (0 ∷ [])) run run' n → Replied (given (reason_values why)) run run' n
  reason_0 = by_values

  pub reason_1 : why ≡ reason.NoLine → Replied (given (1 ∷ [])) run run' n → Replied (given (reason_values why)) run run' n
  reason_1 = by_values

  pub reason_2 : why ≡ reason.NoLead → Replied (given (2 ∷ [])) run run' n → Replied (given (reason_values why)) run run' n
  reason_2 = by_values

  pub reason_3 : why ≡ reason.TenDigits → Replied (given (3 ∷ [])) run run' n → Replied (given (reason_values why)) run run' n
  reason_3 = by_values

  pub reason_4 : why ≡ reason.NoDelimiter → Replied (given (4 ∷ [])) run run' n → Replied (given (reason_values why)) run run' n
  reason_4 = by_values

  pub reason_5 : why ≡ reason.NoBlank → Replied (given (5 ∷ [])) run run' n → Replied (given (reason_values why)) run run' n
  reason_5 = by_values

  pub reason_hidden : (k : ℕ) (r : Span) → why ≡ reason.Hidden k r → Replied (given (6 ∷ k ∷ r.start ∷ r.end ∷ [])) run run' n → Replied (given (reason_values why)) run run' n
  reason_hidden k r = by_values

pub ruleset reason_rules = (reason_0, reason_1, reason_2, reason_3, reason_4, reason_5, reason_hidden)

-- ---- the entry
module _ (o : Outcome) (e : Result Reason Refusal) (run run' : List ℕ) (n : ℕ) (g : Gives o (told_explained e)) where
  pub explained_because : (why : Reason) → e ≡ Ok why → Replied (given (reason_values why)) run run' n → Replied o run run' n
  explained_because why f d = subst (λ (x : Outcome). Replied x run run' n) (sym (ap told_explained f) ∙ g.answer) d

pub explained_refused : (o : Outcome) (e : Result Reason Refusal) (run : List ℕ) (n : ℕ) (r : Refusal) → e ≡ Err r → Gives o (told_explained e) → Gives (number_of r) n → Replied o run run n
explained_refused o e run n r f g h = subst (λ (x : Outcome). Replied x run run n) (sym (ap told_explained f) ∙ g.answer) (reply_refused r n run h)
