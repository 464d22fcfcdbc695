-- Laws of the code that writes digits: how many they are, and a loop that sets them from the last to the first. Assumes nothing.
use Rattle.std.specs.Prelude.{◌≡◌, refl, ℕ, zero, suc, ◌+◌, ◌-◌, ◌*◌, ◌/◌, ◌%◌, ◌^◌, ◌≤◌, ◌<◌, drop, set, Option, Some, None, IfSome, IfNone, unwrap_or}
use Rattle.std.proofs.Common.{sym, ◌∙◌, add-one, Fits, length-append, length-set, drop-cons, drop-set-lt, get_or-set_same}
use Rattle.std.proofs.Math.Path.{ap}
use mathlib.Core.List.{List, [], ◌∷◌, ◌++◌, append_assoc}
use Rattle.std.proofs.Math.Nat.{pow-succ'}
use Rattle.std.proofs.Math.Numerals.{unary_clauses}
use native.Mathlib.Omega.{arith}
use Rattle.std.specs.Int.{w32}
use Rattle.std.proofs.Math.ListN.{length, replicate}
use Rattle.search.specs.Promise.{Gives}
use Rattle.decimal.specs.Decimal.{decimal, digits_of}
use Rattle.decimal.specs.DecimalLaws.{decimal_small, decimal-few, decimal-many, digits_ten, by_tenths}

ten : (x : ℕ) → Fits w32 x → length (decimal x) ≤ 10
unfolding digits_of
ten x b = digits_ten x (omega (arith, b.fits))

-- ---- the digits are counted
-- they are one more than the number's logarithm
pub counted : (x k : ℕ) (o : Option ℕ) → IfNone o (x ≡ 0) → IfSome o (λ d. 10 ^ d ≤ x) → IfSome o (λ d. x < 10 * 10 ^ d) → k ≡ unwrap_or o 0 → Gives (length (decimal x)) (k + 1)
counted x k None z p q e = record { answer = omega (arith, e, ap length (decimal_small x (omega (arith, z)))) }
counted x k (Some d) z p q e = record { answer = omega (arith, e, decimal-many d x p, decimal-few d x (omega (arith, pow-succ' 10 d))) }

-- ---- the digits are set, from the last to the first
-- the last i digits of n, zeros before them where it has fewer
abbrev last_digits : ℕ → ℕ → List ℕ
last_digits zero n = []
last_digits (suc i) n = last_digits i (n / 10) ++ ((48 + n % 10) ∷ [])

-- all of them are the number's
all_last : (n : ℕ) → decimal n ≡ last_digits (length (decimal n)) n
all_last n =
    by_tenths (λ m l. l ≡ last_digits (length l) m) (λ m h. ap (λ (y : ℕ). (48 + y) ∷ []) (omega arith))
    (λ m l h w. rw (length-append l ((48 + m % 10) ∷ []), add-one (length l)) (ap (λ (y : List ℕ). y ++ ((48 + m % 10) ∷ [])) w)) n

-- what is left of a run of one number
drop-same : (a k n : ℕ) → drop k (replicate n a) ≡ replicate (n - k) a
drop-same a zero n = simp unary_clauses
drop-same a (suc k) zero = let z : 0 - suc k ≡ 0 = omega arith in rw z
drop-same a (suc k) (suc n) = simp unary_clauses (drop-same a k n)

-- one digit more is set before those that are
one_set : (l : List ℕ) (n i : ℕ) → i < length l → last_digits (suc i) n ++ drop (suc i) l ≡ last_digits i (n / 10) ++ drop i (set l i (48 + n % 10))
one_set l n i h =
    let d = 48 + n % 10 in
    append_assoc (last_digits i (n / 10)) (d ∷ []) (drop (suc i) l)
    ∙ rw (drop-cons (set l i d) i 0 (omega (arith, length-set l i d)), get_or-set_same l i d 0 h, drop-set-lt (suc i) l i d (omega arith))

-- the last i digits of what is left are still to be set; those behind them are
pub record Filling (x : ℕ) (bytes : List ℕ) (rest i : ℕ) : Type 0 where
  pub same : (digits_of x).bytes ≡ last_digits i rest ++ drop i bytes
  pub within : i ≤ 10
  pub long : length bytes ≡ 10

module _ (x : ℕ) where
  pub filling_first : (count : ℕ) → Gives (length (decimal x)) count → Fits w32 x → Filling x (replicate 10 0) x count
  unfolding digits_of
  filling_first count g b =
      record {
        same = rw (g.answer, drop-same 0 (length (decimal x)) 10) (ap (λ (l : List ℕ). l ++ replicate (10 - length (decimal x)) 0) (all_last x));
        within = omega (arith, g.answer, ten x b);
        long = refl;
      }

  module _ (bytes : List ℕ) (rest i : ℕ) where
    pub filling_again : (d : ℕ) → 0 < i → Gives (48 + rest % 10) d → Filling x bytes rest i → Filling x (set bytes (i - 1) d) (rest / 10) (i - 1)
    filling_again d h g w =
        let z : i ≡ suc (i - 1) = omega arith in
        record {
          same = w.same ∙ ap (λ (k : ℕ). last_digits k rest ++ drop k bytes) z ∙ one_set bytes rest (i - 1) (omega (arith, w.within, w.long)) ∙ rw g.answer;
          within = omega (arith, w.within);
          long = length-set bytes (i - 1) d ∙ w.long;
        }

    pub filling_end : (count : ℕ) → i ≤ 0 → Filling x bytes rest i → Gives (length (decimal x)) count → Gives (digits_of x) (record { bytes = bytes; count = count })
    unfolding digits_of
    filling_end count h w g = record { answer = ap (λ (l : List ℕ). record { bytes = l; count = count }) (sym e) ∙ ap (λ (k : ℕ). record { bytes = (digits_of x).bytes; count = k }) g.answer }
      where
        e : (digits_of x).bytes ≡ bytes
        e = let z : i ≡ 0 = omega arith in w.same ∙ rw z
