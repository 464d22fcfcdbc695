-- Laws of runs of numbers. Assumes nothing.
use Rattle.std.specs.Prelude.{◌≡◌, ℕ, Err, None, Ok, Option, Result, Some}
use Rattle.std.proofs.Common.{◌∙◌}
use Rattle.search.specs.Promise.{Gives}
use Rattle.common.specs.Refusals.{number_of}
use Rattle.common.specs.declared.refusal.Refusal.{Refusal}
use Rattle.stored.specs.Numbers.{with_number, said_value, said_refusal, said_found}
use Rattle.stored.specs.declared.numbers.Numbers.{Numbers}

-- ---- what was found
module _ (n : Numbers) (f : Result (Option ℕ) Refusal) (r : Numbers) where
  pub found_at : (p : ℕ) → f ≡ Ok (Some p) → Gives (said_value n p) r → r ≡ said_found n f
  found_at p e g = g.answer ∙ rw e

  pub found_none : f ≡ (Ok None) → Gives (with_number n 2) r → r ≡ said_found n f
  found_none e g = g.answer ∙ rw e

  pub found_refused : (why : Refusal) → f ≡ Err why → Gives (said_refusal n (number_of why)) r → r ≡ said_found n f
  found_refused why e g = g.answer ∙ rw e
