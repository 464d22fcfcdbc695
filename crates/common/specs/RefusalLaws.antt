-- Laws of refusals: the ways through an entry's tests, and that equal outcomes are equal answers. Assumes nothing.
use Rattle.std.specs.Prelude.{◌≡◌, refl, Bool, true, false, not, List, [], ◌∷◌, ℕ, eqb, get_or, Err, None, Ok, Option, Result, Some}
use Rattle.std.proofs.Common.{sym, ap, ◌∙◌, lt-ltb, le-ltb, eq-eqb, ne_eqb}
use Rattle.search.specs.Promise.{Gives, gives_unique}
use Rattle.common.specs.Refusals.{Outcome, given, refused, refuse, number_of, refusal_of, read, unless_none, told, told_found, span_back, told_span}
use Rattle.common.specs.declared.refusal.Refusal.{Refusal}
use Rattle.common.specs.declared.refusal.Refusal.TheVariants.{TextTooLong, PlaceOutside, NoRoom, CutsOutOfOrder, ListMisshapen, ColumnsDiffer, NotAtJoint, ReplacementOpen, LineEndMark, NotRecords}
use Rattle.common.specs.declared.span.Span.{Span}

-- a test that holds refuses, one that fails is passed
pub refuse_now : (n : ℕ) (b : Bool) (o : Outcome) → b ≡ true → refused n ≡ refuse n b o
refuse_now n b o e = rw e

pub refuse_on : (n : ℕ) (b : Bool) (o r : Outcome) → b ≡ false → r ≡ o → r ≡ refuse n b o
refuse_on n b o r e f = rw e f

pub not_yes : (b : Bool) → b ≡ false → not b ≡ true
not_yes b e = ap not e

pub not_no : (b : Bool) → b ≡ true → not b ≡ false
not_no b e = ap not e

pub given_one : (a b : ℕ) → a ≡ b → given (a ∷ []) ≡ given (b ∷ [])
given_one a b e = rw e

pub ruleset refuse_rules = (given_one, refuse_now, refuse_on, lt-ltb, le-ltb, eq-eqb, ne_eqb, not_yes, not_no)

-- ---- an outcome is of one answer: the answer is read back from it
-- a refusal is that of its number, and its number is not 0
number_is : (r : Refusal) → (refusal_of (number_of r) ≡ r) × (eqb (number_of r) 0 ≡ false)
unfolding refusal_of
number_is TextTooLong = (refl, refl)
number_is PlaceOutside = (refl, refl)
number_is NoRoom = (refl, refl)
number_is CutsOutOfOrder = (refl, refl)
number_is ListMisshapen = (refl, refl)
number_is ColumnsDiffer = (refl, refl)
number_is NotAtJoint = (refl, refl)
number_is ReplacementOpen = (refl, refl)
number_is LineEndMark = (refl, refl)
number_is NotRecords = (refl, refl)

pub number_some : (r : Refusal) → eqb (number_of r) 0 ≡ false
number_some r = (number_is r).1

pub read-refused : {A : Type 0} (f : List ℕ → A) (g : Refusal → A) (r : Refusal) → read f g (refused (number_of r)) ≡ g r
unfolding read
read-refused f g r = rw (number_some r, read) (ap g (number_is r).0)

-- two answers of one outcome are equal, where `back` reads an answer back from what it says
pub told_unique : {A : Type 0} (told : A → Outcome) (back : Outcome → A) → ((r : A) → back (told r) ≡ r) → {o : Outcome} {r r' : A} → Gives o (told r) → Gives o (told r') → r ≡ r'
told_unique told back same {o} {r} {r'} g g' = sym (same r) ∙ ap back (gives_unique g g') ∙ same r'

answer_back : (r : Result ℕ Refusal) → read (λ l. Ok (get_or l 0 0)) Err (told r) ≡ r
unfolding read
answer_back (Ok v) = refl
answer_back (Err r) = read-refused (λ l. Ok (get_or l 0 0)) Err r

found_at : List ℕ → Result (Option ℕ) Refusal
found_at = unless_none (Ok None) (λ l. Ok (Some (get_or l 0 0)))

found_back : (r : Result (Option ℕ) Refusal) → read found_at Err (told_found r) ≡ r
unfolding read found_at
found_back (Ok (Some q)) = refl
found_back (Ok None) = refl
found_back (Err r) = read-refused found_at Err r

span_at : List ℕ → Result (Option Span) Refusal
span_at = unless_none (Ok None) (λ l. Ok (Some (span_back l)))

span-back : (r : Result (Option Span) Refusal) → read span_at Err (told_span r) ≡ r
unfolding read span_at
span-back (Ok (Some s)) = refl
span-back (Ok None) = refl
span-back (Err r) = read-refused span_at Err r

pub answer_unique : {o : Outcome} {r r' : Result ℕ Refusal} → Gives o (told r) → Gives o (told r') → r ≡ r'
answer_unique = told_unique told (read (λ l. Ok (get_or l 0 0)) Err) answer_back

pub found_unique : {o : Outcome} {r r' : Result (Option ℕ) Refusal} → Gives o (told_found r) → Gives o (told_found r') → r ≡ r'
found_unique = told_unique told_found (read found_at Err) found_back

pub span_unique : {o : Outcome} {r r' : Result (Option Span) Refusal} → Gives o (told_span r) → Gives o (told_span r') → r ≡ r'
span_unique = told_unique told_span (read span_at Err) span-back
