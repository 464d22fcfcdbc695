-- Laws of the bytes left out of the search: the loop that counts them. Assumes nothing.
use Rattle.std.specs.Prelude.{◌≡◌, refl, Bool, true, false, not, ◌||◌, ◌&&◌, List, ◌⊎◌, ℕ, zero, suc, ◌+◌, ◌≤◌, ◌<◌, min, ltb}
use Rattle.std.proofs.Common.{sym as inv, ◌∙◌, inl, inr, add-one, Fits, lt-ltb, ltb-true, ltb-false}
use Rattle.std.proofs.Math.Path.{ap}
use native.Mathlib.Omega.{arith}
use mir.Val.{bool_byte}
use Rattle.std.specs.Int.{w64}
use Rattle.search.specs.Promise.{Gives}
use Rattle.search.specs.Search.{one_of}
use Rattle.search.specs.SearchLaws.{decide}
use Rattle.common.specs.Rules.{entry}
use Rattle.common.specs.Sets.{set_of, as_flag}
use Rattle.common.specs.TableLaws.{table_entry}
use Rattle.rules.specs.Columns.{how_many, rule_byte, sets_with, left_of}

-- ---- the ways out of asking for a byte: y says whether it is kept, k how many sets have it
module _ (n : ℕ) (held y : Bool) (h : Gives held y) where
  pub left-kept : y ≡ true → 0 ≡ as_flag (ltb 0 n && not held)
  left-kept e = let w : held ≡ true = inv h.answer ∙ e in rw w (none (ltb 0 n))
    where
      none : (b : Bool) → 0 ≡ as_flag (b && false)
      none true = refl
      none false = refl

  pub left_once : (k m : ℕ) → y ≡ false → Gives n k → Gives (min k 1) m → m ≡ as_flag (ltb 0 n && not held)
  left_once k m e g q = let w : held ≡ false = inv h.answer ∙ e in rw w (once (decide (ltb 0 n)))
    where
      once : (ltb 0 n ≡ true) ⊎ (ltb 0 n ≡ false) → m ≡ as_flag (ltb 0 n && true)
      once (inl u) = rw u (omega (arith, q.answer, g.answer, ltb-true 0 n u))
      once (inr u) = rw u (omega (arith, q.answer, g.answer, ltb-false 0 n u))

-- ---- how many sets have a byte: y, y' and y'' say which
flag_few : (y : Bool) → as_flag y ≤ 1
flag_few true = omega arith
flag_few false = omega arith

-- a cast makes this number of a flag
cast_flag : (y : Bool) → bool_byte y ≡ as_flag y
cast_flag true = refl
cast_flag false = refl

module _ (y y' : Bool) where
  pub two_flags : Fits w64 (bool_byte y + bool_byte y')
  two_flags = omega (arith, cast_flag y, cast_flag y', flag_few y, flag_few y')

  module _ (y'' : Bool) where
    pub three_flags : Fits w64 (bool_byte y + bool_byte y' + bool_byte y'')
    three_flags = omega (arith, cast_flag y, cast_flag y', cast_flag y'', flag_few y, flag_few y', flag_few y'')

    pub sets_told : (a b c : List Bool) (x : ℕ) → Gives (entry false a x) y → Gives (entry false b x) y' → Gives (entry false c x) y''
        → bool_byte y + bool_byte y' + bool_byte y'' ≡ sets_with a b c x
    sets_told a b c x ha hb hc =
        let e : bool_byte y ≡ as_flag (entry false a x) = cast_flag y ∙ ap as_flag ha.answer in
        let e' : bool_byte y' ≡ as_flag (entry false b x) = cast_flag y' ∙ ap as_flag hb.answer in
        let e'' : bool_byte y'' ≡ as_flag (entry false c x) = cast_flag y'' ∙ ap as_flag hc.answer in
        λ j. e j + e' j + e'' j

-- ---- the loop: of the numbers below x, n pass a test
pub record CountedBelow (t : ℕ → Bool) (n x : ℕ) : Type 0 where
  pub counted : n ≡ how_many t x
  pub few : n ≤ x
  pub low : x ≤ 256

pub below_first : (t : ℕ → Bool) → CountedBelow t 0 0
unfolding how_many
below_first t = record { counted = refl; few = omega arith; low = omega arith }

module _ (t : ℕ → Bool) (n x : ℕ) (so : CountedBelow t n x) (k : ℕ) (h : x < 256) (g : Gives (as_flag (t x)) k) where
  pub below_fits : Fits w64 (n + k)
  below_fits = omega (arith, so.few, g.answer, flag_few (t x))

  pub below_again : CountedBelow t (n + k) (x + 1)
  unfolding how_many
  below_again =
      let c : n + k ≡ how_many t (suc x) = omega (arith, so.counted, g.answer) in
      record { counted = c ∙ ap (how_many t) (inv (add-one x)); few = omega (arith, so.few, g.answer, flag_few (t x)); low = omega arith }

pub below_all : (t : ℕ → Bool) (n x : ℕ) → 256 ≤ x → CountedBelow t n x → n ≡ how_many t 256
below_all t n x h so = let z : x ≡ 256 = omega (arith, so.low) in rw (← z) so.counted

-- ---- the sets are those of the columns
-- as many numbers pass one test as pass another that says the same of each
pub same_count : (t t' : ℕ → Bool) (n : ℕ) → ((x : ℕ) → x < n → t x ≡ t' x) → how_many t n ≡ how_many t' n
unfolding how_many
same_count t t' zero e = refl
same_count t t' (suc n) e = λ j. as_flag (e n (omega arith) j) + same_count t t' n (λ x h. e x (omega arith)) j

in_set : (l : List ℕ) (set : List Bool) (x : ℕ) → x < 256 → Gives (set_of l) set → entry false set x ≡ one_of l x
in_set l set x h g = ap (λ (z : List Bool). entry false z x) g.answer ∙ (λ j. table_entry false (one_of l) j x) ∙ rw (lt-ltb x 256 h)

-- some set has a byte where a column does
some_set : (a b c : Bool) → ltb 0 (as_flag a + as_flag b + as_flag c) ≡ (a || (b || c))
some_set true b c = by b c
  where
    by : (b c : Bool) → ltb 0 (1 + as_flag b + as_flag c) ≡ true
    by b c = lt-ltb 0 (1 + as_flag b + as_flag c) (omega arith)
some_set false true c = lt-ltb 0 (0 + 1 + as_flag c) (omega arith)
some_set false false true = refl
some_set false false false = refl

pub left_sets : (kept f y o : List ℕ) (F Y O : List Bool) (n : ℕ) → Gives (set_of f) F → Gives (set_of y) Y → Gives (set_of o) O → Gives (how_many (λ x. ltb 0 (sets_with F Y O x) && not (one_of kept x)) 256) n → n ≡ left_of kept f y o
left_sets kept f y o F Y O n hf hy ho g =
    g.answer
    ∙ same_count (λ x. ltb 0 (sets_with F Y O x) && not (one_of kept x)) (λ x. rule_byte f y o x && not (one_of kept x)) 256
    (λ x h. ap (λ (z : Bool). z && not (one_of kept x)) (some_set (entry false F x) (entry false Y x) (entry false O x) ∙ (λ j. in_set f F x h hf j || (in_set y Y x h hy j || in_set o O x h ho j))))
