-- Our one layout is read, and gives its list again: so it is a file of the grammar. Assumes nothing.
use Rattle.std.specs.Prelude.{◌≡◌, refl, List, [], ◌∷◌, ◌++◌, ℕ, ◌+◌, ◌*◌, ◌/◌, ◌%◌, ◌<◌, ◌≤◌, length}
use Rattle.std.proofs.Common.{sym, ◌∙◌, append_assoc, append-nil, arith, length-append}
use Rattle.std.proofs.Math.Path.{ap}
use Rattle.search.specs.Search.{digit}
use Rattle.decimal.specs.Decimal.{decimal}
use Rattle.decimal.specs.DecimalLaws.{by_tenths, decimal-few}
use Rattle.common.specs.Entry.{flatten}
use Rattle.common.specs.declared.span.Span.{Span}
use Rattle.json_file.specs.declared.phase.Had.{Had}
use Rattle.json_file.specs.declared.phase.Had.TheVariants as had
use Rattle.json_file.specs.declared.phase.Name.{Name}
use Rattle.json_file.specs.declared.phase.Name.TheVariants as name
use Rattle.json_file.specs.declared.phase.Phase.TheVariants as phase
use Rattle.json_file.specs.declared.phase.Move.{Move}
use Rattle.json_file.specs.Form.{Course, upto, outset, phase_move, move_on, follow}
use Rattle.json_file.specs.Grammar.{Number, nought, int, Member, start_member, end_member, Members, start_first, end_first, Object, object, More, no_more, one_more, Array, empty, filled, File, file, greatest}
use Rattle.json_file.specs.Layout.{end_lead, object_of, objects_of, layout}
use Rattle.json_file.specs.FormLaws.{follow_on, digit-first, digit-next}
use Rattle.json_file.specs.GrammarBack.{followed_file}

-- regions whose places are no greater than a file's numbers may be
abbrev pub SpansFit : List Span → Type 0
SpansFit [] = Unit {0}
SpansFit (p ∷ l) = (p.start ≤ greatest) × (p.end ≤ greatest) × SpansFit l

-- ---- a number
module _ (l : List Span) (h : Had) (w : Name) where
  decimal-read : (n : ℕ) → n ≤ greatest → follow (upto l (phase.Value h w)) (decimal n) ≡ upto l (phase.Number h w n)
  unfolding follow
  decimal-read = by_tenths (λ n d. n ≤ greatest → follow (upto l (phase.Value h w)) d ≡ upto l (phase.Number h w n)) small more
    where
      small : (n : ℕ) → n < 10 → n ≤ greatest → follow (upto l (phase.Value h w)) ((48 + n) ∷ []) ≡ upto l (phase.Number h w n)
      small n k b = ap (λ (m : Move). move_on l m) (digit-first h w n k)

      more : (n : ℕ) (d : List ℕ) → 10 ≤ n → (n / 10 ≤ greatest → follow (upto l (phase.Value h w)) d ≡ upto l (phase.Number h w (n / 10))) → n ≤ greatest
          → follow (upto l (phase.Value h w)) (d ++ ((48 + n % 10) ∷ [])) ≡ upto l (phase.Number h w n)
      more n d k ih b =
          let e : n / 10 * 10 + n % 10 ≡ n = omega arith in
          follow_on (upto l (phase.Value h w)) d ((48 + n % 10) ∷ [])
          ∙ ap (λ (c : Course). follow c ((48 + n % 10) ∷ [])) (ih (omega arith))
          ∙ ap (λ (m : Move). move_on l m) (digit-next h w (n / 10) (n % 10) (omega arith) (omega arith) (omega arith))
          ∙ ap (λ (k : ℕ). upto l (phase.Number h w k)) e

  number_read : (n : ℕ) → n ≤ greatest → (t : List ℕ) → follow (upto l (phase.Value h w)) (decimal n ++ t) ≡ follow (upto l (phase.Number h w n)) t
  number_read n b t = follow_on (upto l (phase.Value h w)) (decimal n) t ∙ ap (λ (c : Course). follow c t) (decimal-read n b)

-- ---- an object, and all of them
module _ (l : List Span) (p : Span) (a : p.start ≤ greatest) (b : p.end ≤ greatest) where
  object_read : follow (upto l phase.Next) (object_of p) ≡ upto (l ++ (p ∷ [])) phase.Closed
  unfolding follow phase_move digit object_of
  object_read =
      number_read l had.Nothing name.Start p.start a (end_lead ++ (decimal p.end ++ (125 ∷ [])))
      ∙ number_read l (had.Start p.start) name.End p.end b (125 ∷ [])

  -- with an object's brace `First` does as `Next` does
  first_read : follow (upto l phase.First) (object_of p) ≡ upto (l ++ (p ∷ [])) phase.Closed
  unfolding follow phase_move digit object_of
  first_read = object_read

objects_read : (k l : List Span) → SpansFit l → follow (upto k phase.Closed) (flatten (λ q. 44 ∷ object_of q) l) ≡ upto (k ++ l) phase.Closed
unfolding follow phase_move
objects_read k [] h = ap (λ (x : List Span). upto x phase.Closed) (sym (append-nil k))
objects_read k (p ∷ l) h =
    follow_on (upto k phase.Closed) (44 ∷ object_of p) (flatten (λ q. 44 ∷ object_of q) l)
    ∙ ap (λ (c : Course). follow c (flatten (λ q. 44 ∷ object_of q) l)) (one k)
    ∙ objects_read (k ++ (p ∷ [])) l h.2
    ∙ ap (λ (x : List Span). upto x phase.Closed) (append_assoc k (p ∷ []) l)
  where
    one : (k : List Span) → follow (upto k phase.Closed) (44 ∷ object_of p) ≡ upto (k ++ (p ∷ [])) phase.Closed
    one k = object_read k p h.0 h.1

-- "Reading what we wrote gives the list again"
pub layout_followed : (l : List Span) → SpansFit l → follow outset (layout l) ≡ upto l phase.Done
unfolding follow phase_move layout objects_of
layout_followed [] h = refl
layout_followed (p ∷ l) h =
    let more = flatten (λ q. 44 ∷ object_of q) l in
    follow_on (upto [] phase.First) (object_of p ++ more) (93 ∷ [])
    ∙ ap (λ (c : Course). follow c (93 ∷ []))
    (follow_on (upto [] phase.First) (object_of p) more ∙ ap (λ (c : Course). follow c more) (first_read [] p h.0 h.1) ∙ objects_read (p ∷ []) l h.2)

-- what we write is a file of the list
pub layout_file : (l : List Span) → SpansFit l → File l (layout l)
layout_file l h = followed_file (layout_followed l h)

-- ---- the list of a file fits, so that it can be written
number_fits : {n : ℕ} {s t : List ℕ} → Number n s t → n ≤ greatest
number_fits nought = omega arith
number_fits (int d z j r k) = k

member_fits : {w : Name} {n : ℕ} {s t : List ℕ} → Member w n s t → n ≤ greatest
member_fits (start_member u v k) = number_fits k
member_fits (end_member u v k) = number_fits k

members_fit : {p : Span} {s t : List ℕ} → Members p s t → (p.start ≤ greatest) × (p.end ≤ greatest)
members_fit (start_first u v w k) = (member_fits u, member_fits k)
members_fit (end_first u v w k) = (member_fits k, member_fits u)

object_fits : {p : Span} {s t : List ℕ} → Object p s t → (p.start ≤ greatest) × (p.end ≤ greatest)
object_fits (object u v w) = members_fit v

more_fit : {l : List Span} {s t : List ℕ} → More l s t → SpansFit l
more_fit no_more = tt
more_fit (one_more u o v k) = let h = object_fits o in (h.0, h.1, more_fit k)

array_fits : {l : List Span} {s t : List ℕ} → Array l s t → SpansFit l
array_fits (empty u) = tt
array_fits (filled u o v k) = let h = object_fits o in (h.0, h.1, more_fit k)

pub file_fits : {l : List Span} {s : List ℕ} → File l s → SpansFit l
file_fits (file u v w) = array_fits v

-- our layout of a file's list is a file of that list
pub file_layout : {l : List Span} {s : List ℕ} → File l s → File l (layout l)
file_layout {l} f = layout_file l (file_fits f)

-- ---- how long it is: 38 bytes at the most for each region, and its brackets
object_most : (p : Span) → p.start ≤ greatest → p.end ≤ greatest → length (object_of p) ≤ 37
unfolding object_of
object_most p a b =
    omega (
      arith,
      decimal-few 9 p.start (omega arith),
      decimal-few 9 p.end (omega arith),
      length-append (decimal p.start) (end_lead ++ (decimal p.end ++ (125 ∷ []))),
      length-append (decimal p.end) (125 ∷ []),
    )

objects_most : (l : List Span) → SpansFit l → length (flatten (λ q. 44 ∷ object_of q) l) ≤ length l * 38
objects_most [] h = omega arith
objects_most (p ∷ l) h = omega (arith, object_most p h.0 h.1, objects_most l h.2, length-append (44 ∷ object_of p) (flatten (λ q. 44 ∷ object_of q) l))

pub layout-few : (l : List Span) → SpansFit l → length (layout l) ≤ length l * 38 + 2
unfolding layout objects_of
layout-few [] h = omega arith
layout-few (p ∷ l) h =
    let more = flatten (λ q. 44 ∷ object_of q) l in
    omega (arith, object_most p h.0 h.1, objects_most l h.2, length-append (object_of p) more, length-append (object_of p ++ more) (93 ∷ []))
