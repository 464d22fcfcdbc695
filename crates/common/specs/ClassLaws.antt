-- The rule of a table, proved at all of its entries by one test that antt computes, one entry after the other. Assumes nothing.
use Rattle.std.specs.Prelude.{◌≡◌, refl, Bool, true, ◌&&◌, false, cond, List, [], ◌∷◌, ℕ, zero, suc, ◌+◌, ◌<◌, eqb, length, get_or, ◌⊎◌}
use Rattle.std.proofs.Common.{sym, subst, ◌∙◌, ap, add-zero, zero-add, add-suc, suc-add, not-suc-le-zero, arith, eqb-true, ne_eqb, inl, inr}
use Rattle.std.proofs.Math.Path.{fun_ext}
use Rattle.search.specs.SearchLaws.{and_true, decide, clash, digit-bounds}
use Rattle.common.specs.Sets.{is_marker, is_delimiter, house_markers, house_delims, class_of, class_set}
use Rattle.search.specs.Promise.{Gives}
use Rattle.search.specs.Search.{one_of, digit}
use Rattle.common.specs.Rules.{tabulate}

-- whether each number of a list is the class of its place, counted from i
abbrev pub classes : ℕ → List ℕ → Bool
classes i [] = true
classes i (x ∷ xs) = eqb x (class_of i) && classes (suc i) xs

from : (xs : List ℕ) (i : ℕ) → classes i xs ≡ true → (k : ℕ) → k < length xs → get_or xs k 0 ≡ class_of (i + k)
from [] i t k h = absurd (not-suc-le-zero h)
from (x ∷ xs) i t zero h = subst (λ (m : ℕ). x ≡ class_of m) (sym (add-zero i)) (eqb-true x (class_of i) (and_true (eqb x (class_of i)) (classes (suc i) xs) t).0)
from (x ∷ xs) i t (suc k) h =
    subst (λ (m : ℕ). get_or xs k 0 ≡ class_of m) (suc-add i k ∙ sym (add-suc i k)) (from xs (suc i) (and_true (eqb x (class_of i)) (classes (suc i) xs) t).1 k (omega arith))

pub class_at : (xs : List ℕ) (k : ℕ) → classes 0 xs ≡ true → length xs ≡ 256 → k < 256 → get_or xs k 0 ≡ class_of k
class_at xs k t l h = subst (λ (m : ℕ). get_or xs k 0 ≡ class_of m) (zero-add k) (from xs 0 t k (omega arith))

-- ---- what a class tells of a byte
-- no delimiter is a marker
apart : (b : ℕ) → is_marker b ≡ true → is_delimiter b ≡ false
unfolding one_of
apart b u = by (decide (eqb b 45)) (decide (eqb b 42)) (decide (eqb b 43))
  where
    by : (eqb b 45 ≡ true) ⊎ (eqb b 45 ≡ false) → (eqb b 42 ≡ true) ⊎ (eqb b 42 ≡ false) → (eqb b 43 ≡ true) ⊎ (eqb b 43 ≡ false) → is_delimiter b ≡ false
    by (inl x) y z = let e : b ≡ 45 = eqb-true b 45 x in rw e refl
    by (inr x) (inl y) z = let e : b ≡ 42 = eqb-true b 42 y in rw e refl
    by (inr x) (inr y) (inl z) = let e : b ≡ 43 = eqb-true b 43 z in rw e refl
    by (inr x) (inr y) (inr z) = absurd (clash u (rw (x, y, z) refl))

-- a digit is neither
pub digit-marker : (b : ℕ) → digit b ≡ true → is_marker b ≡ false
unfolding one_of
digit-marker b e = let low = (digit-bounds b e).0 in rw (ne_eqb b 45 (λ z. omega arith), ne_eqb b 42 (λ z. omega arith), ne_eqb b 43 (λ z. omega arith))

pub digit_delimiter : (b : ℕ) → digit b ≡ true → is_delimiter b ≡ false
unfolding one_of
digit_delimiter b e = let low = (digit-bounds b e).0 in rw (ne_eqb b 46 (λ z. omega arith), ne_eqb b 41 (λ z. omega arith))

module _ (b : ℕ) where
  pub class_marker : eqb (class_of b) 1 ≡ is_marker b
  class_marker = by (is_marker b) (is_delimiter b) (digit b)
    where
      by : (m d z : Bool) → eqb (cond m 1 (cond d 2 (cond z 4 0))) 1 ≡ m
      by true d z = refl
      by false true z = refl
      by false false true = refl
      by false false false = refl

  pub class_delimiter : eqb (class_of b) 2 ≡ is_delimiter b
  class_delimiter = by (is_marker b) (is_delimiter b) (digit b) (apart b)
    where
      by : (m d z : Bool) → (m ≡ true → d ≡ false) → eqb (cond m 1 (cond d 2 (cond z 4 0))) 2 ≡ d
      by true d z h = sym (h refl)
      by false true z h = refl
      by false false true h = refl
      by false false false h = refl

  pub class_digit : eqb (class_of b) 4 ≡ digit b
  class_digit = by (is_marker b) (is_delimiter b) (digit b) (digit-marker b) (digit_delimiter b)
    where
      by : (m d z : Bool) → (z ≡ true → m ≡ false) → (z ≡ true → d ≡ false) → eqb (cond m 1 (cond d 2 (cond z 4 0))) 4 ≡ z
      by m d true h i = rw (h refl, i refl)
      by true d false h i = refl
      by false true false h i = refl
      by false false false h i = refl

-- ---- the sets of two classes are those of the house's bytes
pub marker-set : (set : List Bool) → Gives (class_set 1) set → set ≡ house_markers
marker-set set h = h.answer ∙ ap (λ (f : ℕ → Bool). tabulate f 256 0) (fun_ext class_marker)

pub delimiter_set : (set : List Bool) → Gives (class_set 2) set → set ≡ house_delims
delimiter_set set h = h.answer ∙ ap (λ (f : ℕ → Bool). tabulate f 256 0) (fun_ext class_delimiter)
