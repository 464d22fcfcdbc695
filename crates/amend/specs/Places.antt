-- Tests and differences of two places that are moved up together. Assumes nothing.
use Rattle.std.specs.Prelude.{◌≡◌, refl, Bool, true, false, ℕ, ◌+◌, ◌-◌, min, ltb, leb}
use Rattle.std.proofs.Common.{arith, lt-ltb, le-ltb, ltb-true, ltb-false, le-leb, leb-true, leb-false}
use Rattle.std.proofs.lemmas.Bool.{lt-leb}

pub ltb_up : (k m n : ℕ) → ltb (k + m) (k + n) ≡ ltb m n
ltb_up k m n = by (ltb m n) refl
  where
    by : (t : Bool) → ltb m n ≡ t → ltb (k + m) (k + n) ≡ t
    by true e = lt-ltb (k + m) (k + n) (omega (arith, ltb-true m n e))
    by false e = le-ltb (k + m) (k + n) (omega (arith, ltb-false m n e))

pub leb_up : (k m n : ℕ) → leb (k + m) (k + n) ≡ leb m n
leb_up k m n = by (leb m n) refl
  where
    by : (t : Bool) → leb m n ≡ t → leb (k + m) (k + n) ≡ t
    by true e = le-leb (k + m) (k + n) (omega (arith, leb-true m n e))
    by false e = lt-leb (k + m) (k + n) (omega (arith, leb-false m n e))

pub sub_up : (k m n : ℕ) → (k + m) - (k + n) ≡ m - n
sub_up k m n = omega arith

pub min-up : (k m n : ℕ) → min (k + m) (k + n) ≡ k + min m n
min-up k m n = omega arith
