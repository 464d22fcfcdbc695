-- The numbers of refusals, and what an answer says: its number, 0 where the input is served, and its values. Assumes nothing.
-- The page: the table of refusals, and "A refusal returns its number alone".
use Rattle.std.specs.Prelude.{Bool, true, false, not, cond, List, [], ◌∷◌, ℕ, eqb, ltb, length, get_or, Err, None, Ok, Option, Result, Some}
use Rattle.common.specs.declared.refusal.Refusal.{Refusal}
use Rattle.common.specs.declared.refusal.Refusal.TheVariants.{TextTooLong, PlaceOutside, NoRoom, CutsOutOfOrder, ListMisshapen, ColumnsDiffer, NotAtJoint, ReplacementOpen, LineEndMark, NotRecords}
use Rattle.common.specs.declared.span.Span.{Span}

-- the page's number
abbrev pub number_of : Refusal → ℕ
number_of TextTooLong = 1
number_of PlaceOutside = 2
number_of NoRoom = 3
number_of CutsOutOfOrder = 4
number_of ListMisshapen = 5
number_of ColumnsDiffer = 6
number_of NotAtJoint = 7
number_of ReplacementOpen = 8
number_of LineEndMark = 9
number_of NotRecords = 10

-- what the page says of an answer
pub record Outcome : Type 0 where
  pub number : ℕ
  pub values : List ℕ

abbrev pub given : List ℕ → Outcome
given l = record { number = 0; values = l }

-- a refusal returns its number alone
abbrev pub refused : ℕ → Outcome
refused n = record { number = n; values = [] }

-- refusal n where a test holds, else what follows
abbrev pub refuse : ℕ → Bool → Outcome → Outcome
refuse n true o = refused n
refuse n false o = o

-- whether an outcome is no refusal
abbrev pub served : Outcome → Bool
served o = eqb o.number 0

-- "A refusal returns its number alone; lists, states and cursors keep their values.": what an outcome leaves of a value, which success makes another
abbrev pub leaves : {A : Type 0} → Outcome → A → A → A
leaves o old new = cond (served o) new old

abbrev pub told : Result ℕ Refusal → Outcome
told (Ok v) = given (v ∷ [])
told (Err r) = refused (number_of r)

abbrev pub told_found : Result (Option ℕ) Refusal → Outcome
told_found (Ok (Some q)) = given (q ∷ [])
told_found (Ok None) = given []
told_found (Err r) = refused (number_of r)

-- a span's values, and the span of such values
abbrev pub span_values : Span → List ℕ
span_values s = s.start ∷ s.end ∷ []

abbrev pub span_back : List ℕ → Span
span_back l = record { start = get_or l 0 0; end = get_or l 1 0 }

abbrev pub told_span : Result (Option Span) Refusal → Outcome
told_span (Ok (Some s)) = given (span_values s)
told_span (Ok None) = given []
told_span (Err r) = refused (number_of r)

-- ---- what says an outcome, read back from it
-- the refusal of a number
unfoldable pub refusal_of : ℕ → Refusal
refusal_of n =
    get_or (TextTooLong ∷ TextTooLong ∷ PlaceOutside ∷ NoRoom ∷ CutsOutOfOrder ∷ ListMisshapen ∷ ColumnsDiffer ∷ NotAtJoint ∷ ReplacementOpen ∷ LineEndMark ∷ NotRecords ∷ []) n NotRecords

-- served by its values, or refused by its number
unfoldable pub read : {A : Type 0} → (List ℕ → A) → (Refusal → A) → Outcome → A
read f g o = elim (served o) [ true ↦ f o.values | false ↦ g (refusal_of o.number) ]

-- one answer where there are no values, else by the values
abbrev pub unless_none : {A : Type 0} → A → (List ℕ → A) → List ℕ → A
unless_none a f [] = a
unless_none a f (x ∷ l) = f (x ∷ l)

-- ---- what is refused, in the page's words
-- "a text, a replacement or an edited text is too long"
abbrev pub too_long : List ℕ → Bool
too_long s = ltb 4294967295 (length s)

-- "a place given to a leaf of `common.rs`, or a scanner state's position, is past the text"
abbrev pub past : List ℕ → ℕ → Bool
past s p = ltb (length s) p

-- "a rule's columns differ in length"
abbrev pub differ : List ℕ → List ℕ → Bool
differ a b = not (eqb (length a) (length b))
