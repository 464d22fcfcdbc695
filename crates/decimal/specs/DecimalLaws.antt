-- Laws of numbers in decimal: what their digits are and how many, what digits are worth, and that writing and reading undo each other. Assumes nothing.
use Rattle.std.specs.Prelude.{◌≡◌, refl, true, false, List, [], ◌∷◌, ◌++◌, ◌⊎◌, ℕ, zero, suc, ◌+◌, ◌-◌, ◌*◌, ◌/◌, ◌%◌, ◌^◌, ◌≤◌, ◌<◌, ltb, length, take, replicate}
use Rattle.std.proofs.Common.{sym, ap, ◌∙◌, append_assoc, append-nil, inl, inr, not-suc-le-zero, mul-le-mul_right, add-mul, mul_assoc, arith, length-append, lt-ltb, le-ltb, ltb-true, ltb-false, le-leb}
use Rattle.std.proofs.Math.Nat.{pow-zero, pow-succ'}
use Rattle.std.proofs.Math.Seq.{take-append_seam}
use Rattle.search.specs.Search.{digit}
use Rattle.search.specs.SearchLaws.{decide, and_true, digit-bounds, digit_most}
use Rattle.decimal.specs.Decimal.{decimal_by, decimal, digits_of, valued_from, valued, all_digits, numeral}

-- ---- one digit
-- 48 and a number below ten is one
digit-written : (d : ℕ) → d < 10 → digit (48 + d) ≡ true
unfolding digit
digit-written d h = rw (le-leb 48 (48 + d) (omega arith), le-leb (48 + d) 57 (omega arith))

-- ---- one digit more is written
by_small : (f n : ℕ) → n < 10 → decimal_by (suc f) n ≡ (48 + n) ∷ []
unfolding decimal_by
by_small f n h = rw (decimal_by, lt-ltb n 10 h)

by_more : (f n : ℕ) → 10 ≤ n → decimal_by (suc f) n ≡ decimal_by f (n / 10) ++ ((48 + n % 10) ∷ [])
unfolding decimal_by
by_more f n h = rw (decimal_by, le-ltb n 10 h)

-- fuel past the number changes nothing
by_fuel : (f f' n : ℕ) → n < f → n < f' → decimal_by f n ≡ decimal_by f' n
by_fuel zero f' n h i = absurd (not-suc-le-zero h)
by_fuel (suc f) zero n h i = absurd (not-suc-le-zero i)
by_fuel (suc f) (suc f') n h i = by (λ l. by_fuel f f' (n / 10) (omega arith) (omega arith)) (decide (ltb n 10))
  where
    by : (10 ≤ n → decimal_by f (n / 10) ≡ decimal_by f' (n / 10)) → (ltb n 10 ≡ true) ⊎ (ltb n 10 ≡ false) → decimal_by (suc f) n ≡ decimal_by (suc f') n
    by ih (inl e) = let l = ltb-true n 10 e in by_small f n l ∙ sym (by_small f' n l)
    by ih (inr e) =
        let l = ltb-false n 10 e in
        by_more f n l ∙ ap (λ (d : List ℕ). d ++ ((48 + n % 10) ∷ [])) (ih l) ∙ sym (by_more f' n l)

-- a number below 10 is its digit
pub decimal_small : (n : ℕ) → n < 10 → decimal n ≡ (48 + n) ∷ []
unfolding decimal
decimal_small n h = by_small n n h

-- another has the digits of its tenth before its last one
pub decimal-more : (n : ℕ) → 10 ≤ n → decimal n ≡ decimal (n / 10) ++ ((48 + n % 10) ∷ [])
unfolding decimal
decimal-more n h = by_more n n h ∙ ap (λ (d : List ℕ). d ++ ((48 + n % 10) ∷ [])) (by_fuel n (suc (n / 10)) (n / 10) (omega arith) (omega arith))

-- ten times a number and a digit: the digit stands behind the number's
pub decimal-next : (n d : ℕ) → 0 < n → d < 10 → decimal (n * 10 + d) ≡ decimal n ++ ((48 + d) ∷ [])
decimal-next n d h l =
    let q : (n * 10 + d) / 10 ≡ n = omega arith in
    let r : (n * 10 + d) % 10 ≡ d = omega arith in
    decimal-more (n * 10 + d) (omega arith) ∙ rw (q, r)

-- what holds of one digit, and with a tenth's digits of the number's, holds of all
pub by_tenths : (P : ℕ → List ℕ → Type 0) → ((n : ℕ) → n < 10 → P n ((48 + n) ∷ [])) → ((n : ℕ) (l : List ℕ) → 10 ≤ n → P (n / 10) l → P n (l ++ ((48 + n % 10) ∷ []))) → (n : ℕ) → P n (decimal n)
by_tenths P small more n = below (suc n) n (omega arith)
  where
    below : (f n : ℕ) → n < f → P n (decimal n)
    below zero n h = absurd (not-suc-le-zero h)
    below (suc f) n h = by (λ l. below f (n / 10) (omega arith)) (decide (ltb n 10))
      where
        by : (10 ≤ n → P (n / 10) (decimal (n / 10))) → (ltb n 10 ≡ true) ⊎ (ltb n 10 ≡ false) → P n (decimal n)
        by ih (inl e) = let l = ltb-true n 10 e in rw (decimal_small n l) (small n l)
        by ih (inr e) = let l = ltb-false n 10 e in rw (decimal-more n l) (more n (decimal (n / 10)) l (ih l))

-- ---- how many digits are written
-- one more than for a tenth
pub decimal_size : (n : ℕ) → 10 ≤ n → length (decimal n) ≡ suc (length (decimal (n / 10)))
decimal_size n h = omega (arith, ap length (decimal-more n h), length-append (decimal (n / 10)) ((48 + n % 10) ∷ []))

-- a number below a power of ten has no more digits than the power has zeros
pub decimal-few : (d n : ℕ) → n < 10 ^ suc d → length (decimal n) ≤ suc d
decimal-few zero n h = omega (arith, ap length (decimal_small n (omega arith)))
decimal-few (suc d) n h = by (λ l. decimal-few d (n / 10) (omega (arith, pow-succ' 10 (suc d)))) (decide (ltb n 10))
  where
    by : (10 ≤ n → length (decimal (n / 10)) ≤ suc d) → (ltb n 10 ≡ true) ⊎ (ltb n 10 ≡ false) → length (decimal n) ≤ suc (suc d)
    by ih (inl e) = omega (arith, ap length (decimal_small n (ltb-true n 10 e)))
    by ih (inr e) = let l = ltb-false n 10 e in omega (arith, decimal_size n l, ih l)

power_some : (d : ℕ) → 0 < 10 ^ d
power_some zero = omega arith
power_some (suc d) = omega (arith, pow-succ' 10 d, power_some d)

-- one that reaches a power of ten has more digits than the power has zeros
pub decimal-many : (d n : ℕ) → 10 ^ d ≤ n → suc d ≤ length (decimal n)
decimal-many zero n h = by (decide (ltb n 10))
  where
    by : (ltb n 10 ≡ true) ⊎ (ltb n 10 ≡ false) → 1 ≤ length (decimal n)
    by (inl e) = omega (arith, ap length (decimal_small n (ltb-true n 10 e)))
    by (inr e) = omega (arith, decimal_size n (ltb-false n 10 e))
decimal-many (suc d) n h =
    let p = pow-succ' 10 d in
    omega (arith, decimal_size n (omega (arith, p, power_some d)), decimal-many d (n / 10) (omega (arith, p)))

-- ---- the digits in an array of ten
-- its front holds them
pub digits-front : (n : ℕ) → take (digits_of n).count (digits_of n).bytes ≡ decimal n
unfolding digits_of
digits-front n = take-append_seam (decimal n) (replicate (10 - length (decimal n)) 0)

-- so it is long enough
pub digits_long : (n : ℕ) → (digits_of n).count ≤ length (digits_of n).bytes
unfolding digits_of
digits_long n = omega (arith, length-append (decimal n) (replicate (10 - length (decimal n)) 0))

-- a number of 32 bits has ten at the most
pub digits_ten : (n : ℕ) → n < 4294967296 → (digits_of n).count ≤ 10
unfolding digits_of
digits_ten n h = decimal-few 9 n (omega arith)

-- ---- what digits are worth
-- digits behind others: the others come first
pub valued-append : (v : ℕ) (a b : List ℕ) → valued_from v (a ++ b) ≡ valued_from (valued_from v a) b
unfolding valued_from
valued-append v [] b = refl
valued-append v (x ∷ a) b = valued-append (v * 10 + (x - 48)) a b

-- one byte more
pub valued-more : (v : ℕ) (l : List ℕ) (x : ℕ) → valued_from v (l ++ (x ∷ [])) ≡ valued_from v l * 10 + (x - 48)
unfolding valued_from
valued-more v l x = valued-append v l (x ∷ [])

-- a number before digits counts the power of ten with as many zeros
valued-behind : (v : ℕ) (l : List ℕ) → valued_from v l ≡ v * 10 ^ length l + valued l
unfolding valued_from
valued-behind v [] = sym (rw pow-zero (omega arith))
valued-behind v (x ∷ l) =
    let n = length l in
    let d = x - 48 in
    let z : 0 * 10 + d ≡ d = omega arith in
    let a : valued_from (v * 10 + d) l ≡ (v * 10 + d) * 10 ^ n + valued l = valued-behind (v * 10 + d) l in
    let b : valued_from (0 * 10 + d) l ≡ d * 10 ^ n + valued l = rw z (valued-behind d l) in
    let e : (v * 10 + d) * 10 ^ n ≡ v * 10 * 10 ^ n + d * 10 ^ n = add-mul (v * 10) d (10 ^ n) in
    let f : v * 10 ^ suc n ≡ v * 10 * 10 ^ n = ap (λ (k : ℕ). v * k) (pow-succ' 10 n) ∙ sym (mul_assoc v 10 (10 ^ n)) in
    omega (arith, a, b, e, f)

-- and so does a first digit
pub valued_lead : (x : ℕ) (l : List ℕ) → valued (x ∷ l) ≡ (x - 48) * 10 ^ length l + valued l
unfolding valued_from
valued_lead x l = let z : 0 * 10 + (x - 48) ≡ x - 48 = omega arith in rw z (valued-behind (x - 48) l)

-- none are worth 0
pub valued_none : valued [] ≡ 0
unfolding valued_from
valued_none = refl

-- n digits are worth less than the power of ten with n zeros
pub valued-few : (v : ℕ) (l : List ℕ) → all_digits l ≡ true → valued_from v l < (v + 1) * 10 ^ length l
unfolding valued_from
valued-few v [] e = omega arith
valued-few v (x ∷ l) e =
    let w = and_true (digit x) (all_digits l) e in
    let k = length l in
    let m : (v * 10 + (x - 48) + 1) * 10 ^ k ≤ (v * 10 + 10) * 10 ^ k = mul-le-mul_right (10 ^ k) (omega (arith, digit_most x w.0)) in
    rw pow-succ' (omega (arith, valued-few (v * 10 + (x - 48)) l w.1))

-- ---- written, then read
-- every number is worth itself
pub written_read : (n : ℕ) → valued (decimal n) ≡ n
written_read n = by_tenths (λ m l. valued l ≡ m) (λ m h. valued-more 0 [] (48 + m) ∙ omega (arith, valued_none)) (λ m l h w. valued-more 0 l (48 + m % 10) ∙ omega arith) n

-- ---- read, then written
-- digits behind a number that is not 0 stand behind its own
grown : (v : ℕ) (l : List ℕ) → 0 < v → all_digits l ≡ true → decimal (valued_from v l) ≡ decimal v ++ l
unfolding valued_from
grown v [] h e = sym (append-nil (decimal v))
grown v (x ∷ l) h e =
    let w = and_true (digit x) (all_digits l) e in
    let b = digit-bounds x w.0 in
    let z : 48 + (x - 48) ≡ x = omega arith in
    grown (v * 10 + (x - 48)) l (omega arith) w.1 ∙ rw (decimal-next v (x - 48) h (omega arith), z) (append_assoc (decimal v) (x ∷ []) l)

-- digits without leading zeros are what is written for their worth
pub read-written : (l : List ℕ) → numeral l ≡ true → decimal (valued l) ≡ l
unfolding valued_from
read-written [] e = absurd (let z : ◌≡◌ {A = ℕ} 0 1 = cc in omega arith)
read-written (x ∷ []) e =
    let b = digit-bounds x e in
    decimal_small (0 * 10 + (x - 48)) (omega arith) ∙ ap (λ (y : ℕ). y ∷ []) (omega arith)
read-written (x ∷ y ∷ l) e =
    let w = and_true (ltb 48 x) (all_digits (x ∷ y ∷ l)) e in
    let v = and_true (digit x) (all_digits (y ∷ l)) w.1 in
    let b = digit-bounds x v.0 in
    let h = ltb-true 48 x w.0 in
    grown (0 * 10 + (x - 48)) (y ∷ l) (omega arith) v.1 ∙ rw (decimal_small (0 * 10 + (x - 48)) (omega arith)) (ap (λ (k : ℕ). k ∷ (y ∷ l)) (omega arith))

-- ---- what is written
-- digits alone
all_append : (a b : List ℕ) → all_digits a ≡ true → all_digits b ≡ true → all_digits (a ++ b) ≡ true
all_append [] b h i = i
all_append (x ∷ a) b h i = let w = and_true (digit x) (all_digits a) h in rw (w.0, all_append a b w.1 i)

pub decimal-digits : (n : ℕ) → all_digits (decimal n) ≡ true
decimal-digits n =
    by_tenths (λ m l. all_digits l ≡ true) (λ m h. rw (digit-written m h)) (λ m l h w. all_append l ((48 + m % 10) ∷ []) w (rw (digit-written (m % 10) (omega arith)))) n

-- a first digit that is no zero
abbrev pub LeadsNumber : List ℕ → Type 0
LeadsNumber [] = ⊥
LeadsNumber (x ∷ l) = 48 < x

leads-append : (a b : List ℕ) → LeadsNumber a → LeadsNumber (a ++ b)
leads-append [] b h = absurd h
leads-append (x ∷ a) b h = h

-- of a number that is not 0 the first digit is no zero
pub decimal-leads : (n : ℕ) → 0 < n → LeadsNumber (decimal n)
decimal-leads n = by_tenths (λ m l. 0 < m → LeadsNumber l) (λ m h p. omega arith) (λ m l h w p. leads-append l ((48 + m % 10) ∷ []) (w (omega arith))) n

-- every number is written without leading zeros
pub decimal-numeral : (n : ℕ) → numeral (decimal n) ≡ true
decimal-numeral n = by (decide (ltb 0 n))
  where
    led : (l : List ℕ) → LeadsNumber l → all_digits l ≡ true → numeral l ≡ true
    led [] h e = absurd h
    led (x ∷ []) h e = (and_true (digit x) true e).0
    led (x ∷ y ∷ l) h e = rw (lt-ltb 48 x h) e

    by : (ltb 0 n ≡ true) ⊎ (ltb 0 n ≡ false) → numeral (decimal n) ≡ true
    by (inl e) = led (decimal n) (decimal-leads n (ltb-true 0 n e)) (decimal-digits n)
    by (inr e) = let h = ltb-false 0 n e in rw (decimal_small n (omega arith)) (digit-written n (omega arith))
