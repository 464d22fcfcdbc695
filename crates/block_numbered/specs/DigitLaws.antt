-- Laws of the digits of a text: how many stand before a place, and the number that those between two places write. Assumes nothing.
use Rattle.std.specs.Prelude.{◌≡◌, Bool, true, false, ◌⊎◌, ltb, leb, get_or}
use Rattle.std.proofs.Math.Path.{refl, sym, ap}
use Rattle.std.proofs.Common.{◌∙◌, inl, inr, ⊎_elim, mul-le-mul_right, suc-add, zero-add, add-one, arith, Fits, length-take, drop_of_length-le, get_or-take, take-suc, take-take, length-take-le, leb-true, leb-false, le-leb, ltb-true, ltb-false, lt-ltb, le-ltb}
use Rattle.std.proofs.Math.Bool.{and-false}
use mathlib.Core.List.{List, [], ◌∷◌, ◌++◌}
use Prim.Native.Nat.{ℕ, zero, suc, ◌+◌, ◌-◌, ◌*◌, ◌^◌, ◌≤◌, ◌<◌, min}
use Rattle.std.proofs.Math.Nat.{pow-le-pow_right, pow-succ'}
use Rattle.std.specs.Int.{w32}
use Rattle.std.proofs.Math.ListN.{length, take, drop, get_or-eq_default}
use Rattle.std.proofs.Math.Seq.{slice, slice-cons, slice_empty, length-slice, take-nil, drop-nil}
use Rattle.std.proofs.lemmas.List.{drop-append-le}
use Rattle.std.proofs.lemmas.Bool.{lt-leb}
use Rattle.search.specs.Promise.{Gives}
use Rattle.search.specs.Search.{other, holds, find, back, digit}
use Rattle.search.specs.SearchLaws.{decide, clash, and_true, other_yes, other_no, holds_in, holds-past, find_le, find_end, find_here, Seeks, seeks_first, seeks_again, Backs, backs_first, backs_told_again, backs_told_found, backs_end, back_le, back-past, back_run, back_stop, digit_most, digit_none}
use Rattle.decimal.specs.Decimal.{valued, all_digits}
use Rattle.decimal.specs.DecimalLaws.{valued-more, valued_lead, valued_none, valued-few}
use Rattle.common.specs.Rules.{tabulate}
use Rattle.common.specs.TableLaws.{tabulate-at}
use Rattle.common.specs.Items.{leading, beyond}
use Rattle.common.specs.ItemLaws.{leading_yes, leading_no, beyond_yes, beyond_no, leading-is}
use Rattle.block_numbered.specs.Numbered.{one_to_nine, few, trail_at, read_digits, digits_at}
use Rattle.block_numbered.specs.declared.Trail.{Trail}

-- ---- past a text there is no digit
read-digit : (s : List ℕ) (j : ℕ) → holds digit s j ≡ digit (get_or s j 0)
read-digit s j = by (decide (ltb j (length s)))
  where
    by : (ltb j (length s) ≡ true) ⊎ (ltb j (length s) ≡ false) → holds digit s j ≡ digit (get_or s j 0)
    by (inl u) = holds_in digit s j (ltb-true j (length s) u)
    by (inr u) =
        let h = ltb-false j (length s) u in
        holds-past digit s j h ∙ sym (ap digit (get_or-eq_default s 0 {n = j} h) ∙ digit_none)

-- ---- the number that digits of a text write
-- one byte more of a part of a text
slice_more : (u : List ℕ) (from i : ℕ) → from ≤ i → i < length u → slice from (i + 1) u ≡ slice from i u ++ (get_or u i 0 ∷ [])
slice_more u from i h l =
    ap (λ (k : ℕ). slice from k u) (add-one i) ∙ ap (drop from) (take-suc u i 0 l) ∙ drop-append-le from (take i u) (get_or u i 0 ∷ []) (omega (arith, length-take-le i u (omega arith)))

pub valued_slice : (u : List ℕ) (from i : ℕ) → from ≤ i → i < length u → valued (slice from (i + 1) u) ≡ valued (slice from i u) * 10 + (get_or u i 0 - 48)
valued_slice u from i h l = ap valued (slice_more u from i h l) ∙ valued-more 0 (slice from i u) (get_or u i 0)

-- one byte more before it counts its power of ten
valued_before : (u : List ℕ) (k p : ℕ) → 0 < k → k ≤ p → p ≤ length u → valued (slice (k - 1) p u) ≡ valued (slice k p u) + (get_or u (k - 1) 0 - 48) * 10 ^ (p - k)
valued_before u k p h l m =
    let x = get_or u (k - 1) 0 in
    let z : suc (k - 1) ≡ k = omega arith in
    let c : slice (k - 1) p u ≡ x ∷ slice k p u = slice-cons (k - 1) p u 0 (omega arith) m ∙ ap (λ (j : ℕ). x ∷ slice j p u) z in
    let v : valued (x ∷ slice k p u) ≡ (x - 48) * 10 ^ (p - k) + valued (slice k p u) = rw (← (length-slice k p u m)) (valued_lead x (slice k p u)) in
    omega (arith, ap valued c, v)

valued_empty : (u : List ℕ) (i : ℕ) → valued (slice i i u) ≡ 0
valued_empty u i = ap valued (slice_empty i u) ∙ valued_none

read_none : (l : List ℕ) → l ≡ [] → read_digits l ≡ []
unfolding leading
read_none l z = ap read_digits z

-- ---- powers of ten
-- the rule of the table: all of its entries are computed and compared
pub power_at : (l : List ℕ) (i : ℕ) → l ≡ tabulate (λ (k : ℕ). 10 ^ k) 9 0 → i < 9 → get_or l i 0 ≡ 10 ^ i
power_at l i e h = ap (λ (m : List ℕ). get_or m i 0) e ∙ tabulate-at (λ (k : ℕ). 10 ^ k) 9 0 i 0 h ∙ ap (λ (k : ℕ). 10 ^ k) (zero-add i)

power_most : (i : ℕ) → i < 9 → 10 ^ i ≤ 100000000
power_most i h = pow-le-pow_right {n = 10} (omega arith) {i = i} {j = 8} (omega arith)

-- ---- a walk back over nine digits at the most, which adds what each counts
pub record Walking (s : List ℕ) (p k v : ℕ) : Type 0 where
  pub walk : Backs digit s p k
  pub most : p - k ≤ 9
  pub value : v ≡ valued (slice k p s)
  pub small : v < 10 ^ (p - k)

module _ (s : List ℕ) (p : ℕ) where
  -- n digits are counted, from k on
  counted : (n k v : ℕ) → n ≡ p - k → k ≤ p → v ≡ valued (slice k p s) → n ≡ min (back digit s p) 9 → Gives (trail_at s p (min (back digit s p) 9)) (record { count = n; number = v })
  counted n k v e h w m =
      let z : p - n ≡ k = omega arith in
      record { answer = rw (← m, z, w) }

  pub walking_past : length s < p → Gives (trail_at s p (min (back digit s p) 9)) (record { count = 0; number = 0 })
  walking_past h = counted 0 p 0 (omega arith) (omega arith) (sym (valued_empty s p)) (omega (arith, back-past digit s p h))

  pub walking_first : p ≤ length s → Walking s p p 0
  walking_first h =
      let z : p - p ≡ 0 = omega arith in
      record { walk = backs_first digit s p h; most = omega arith; value = sym (valued_empty s p); small = rw z (omega arith) }

  module _ (k v : ℕ) (w : Walking s p k v) where
    pub walking_low : k ≤ p
    walking_low = w.walk.below

    pub walking_full : 9 ≤ p - k → Gives (trail_at s p (min (back digit s p) 9)) (record { count = p - k; number = v })
    walking_full h = counted (p - k) k v refl walking_low w.value (omega (arith, w.walk.same, w.most))

    pub walking_end : k ≤ 0 → Gives (trail_at s p (min (back digit s p) 9)) (record { count = p; number = v })
    walking_end h = counted p k v (omega arith) walking_low w.value (omega (arith, w.most, backs_end digit s p k w.walk h))

    module _ (y : Bool) (h : 0 < k) (l : p - k < 9) (d : Gives (digit (get_or s (k - 1) 0)) y) where
      pub walking_found : y ≡ false → Gives (trail_at s p (min (back digit s p) 9)) (record { count = p - k; number = v })
      walking_found e = counted (p - k) k v refl walking_low w.value (omega (arith, backs_told_found digit s p k y d w.walk h e))

      module _ (e : y ≡ true) (a m : ℕ) (c : Gives (get_or s (k - 1) 0 - 48) a) (g : Gives (10 ^ (p - k)) m) where
        product : a * m ≤ 9 * m
        product = mul-le-mul_right m (omega (arith, c.answer, digit_most (get_or s (k - 1) 0) (sym d.answer ∙ e)))

        pub walking_mul : Fits w32 (a * m)
        walking_mul = record { fits = omega (arith, product, g.answer, power_most (p - k) l) }

        pub walking_add : Fits w32 (v + a * m)
        walking_add = record { fits = omega (arith, product, w.small, g.answer, power_most (p - k) l) }

        pub walking_again : Walking s p (k - 1) (v + a * m)
        walking_again =
            let z : p - (k - 1) ≡ suc (p - k) = omega (arith, walking_low) in
            record {
              walk = backs_told_again digit s p k y d w.walk h e;
              most = omega (arith, walking_low);
              value = rw (w.value, c.answer, g.answer) (sym (valued_before s k p h walking_low w.walk.inside));
              small = rw z (omega (arith, product, w.small, g.answer, pow-succ' 10 (p - k)));
            }

pub ruleset walking_rules = (walking_past, walking_first, walking_full, walking_end, walking_again, walking_found)

-- ---- one to nine digits before a place
module _ (s : List ℕ) (p : ℕ) (r : Trail) (g : Gives (trail_at s p (min (back digit s p) 9)) r) where
  count : r.count ≡ min (back digit s p) 9
  count = ap (λ (w : Trail). w.count) g.answer

  few-all : back digit s p ≤ 9 → Gives (trail_at s p (few (back digit s p))) r
  few-all h =
      let z : min (back digit s p) 9 ≡ few (back digit s p) = rw (le-leb (back digit s p) 9 h) (omega arith) in
      record { answer = g.answer ∙ ap (trail_at s p) z }

  pub before_all : p ≤ r.count → Gives (trail_at s p (few (back digit s p))) r
  before_all h = few-all (omega (arith, count, back_le digit s p))

  pub before_short : r.count < 9 → Gives (trail_at s p (few (back digit s p))) r
  before_short h = few-all (omega (arith, count))

  module _ (h : r.count < p) (x : ℕ) (y : Bool) (d : Gives (digit x) y) (b : Gives (get_or s (p - r.count - 1) 0) x) where
    tenth : y ≡ holds digit s (p - r.count - 1)
    tenth = d.answer ∙ ap digit b.answer ∙ sym (read-digit s (p - r.count - 1))

    pub before_more : y ≡ true → Gives (trail_at s p (few (back digit s p))) (record { count = 0; number = 0 })
    before_more e =
        let z : p - 0 ≡ p = omega arith in
        record { answer = sym (rw (lt-leb (back digit s p) 9 more, z, valued_empty s p)) }
      where
        more : 9 < back digit s p
        more = by (decide (leb (back digit s p) 9))
          where
            by : (leb (back digit s p) 9 ≡ true) ⊎ (leb (back digit s p) 9 ≡ false) → 9 < back digit s p
            by (inl u) =
                let l = leb-true (back digit s p) 9 u in
                let z : suc (p - r.count - 1) ≡ p - back digit s p = omega (arith, count) in
                absurd (clash (sym tenth ∙ e) (back_stop digit s p (p - r.count - 1) z))
            by (inr u) = leb-false (back digit s p) 9 u

    pub before_few : y ≡ false → Gives (trail_at s p (few (back digit s p))) r
    before_few e = few-all less
      where
        less : back digit s p ≤ 9
        less = by (decide (leb (back digit s p) 9))
          where
            by : (leb (back digit s p) 9 ≡ true) ⊎ (leb (back digit s p) 9 ≡ false) → back digit s p ≤ 9
            by (inl u) = leb-true (back digit s p) 9 u
            by (inr u) =
                let l = leb-false (back digit s p) 9 u in
                let m = back_le digit s p in
                absurd (clash (back_run digit s p (p - r.count - 1) (omega (arith, count)) (omega arith)) (sym tenth ∙ e))

pub ruleset before_rules = (before_all, before_short, before_more, before_few)

-- ---- a loop that reads nine digits at the most
-- the first nine bytes from a place on, in a text cut behind them
take-drop : (n m : ℕ) (l : List ℕ) → take n (drop m l) ≡ drop m (take (m + n) l)
take-drop n m [] = ap (take n) (drop-nil m) ∙ take-nil n ∙ sym (ap (drop m) (take-nil (m + n)) ∙ drop-nil m)
take-drop n zero (x ∷ l) = let z : 0 + n ≡ n = omega arith in ap (λ (k : ℕ). take k (x ∷ l)) (sym z)
take-drop n (suc m) (x ∷ l) = take-drop n m l ∙ ap (λ (k : ℕ). drop (suc m) (take k (x ∷ l))) (sym (suc-add m n))

pub record DigitsReading (u : List ℕ) (from i v : ℕ) : Type 0 where
  pub seeks : Seeks (other digit) (take (from + 9) u) from i
  pub value : v ≡ valued (slice from i u)
  pub small : v < 10 ^ (i - from)
  pub most : i ≤ from + 9

module _ (u : List ℕ) (from : ℕ) where
  pub reading_first : DigitsReading u from from 0
  reading_first =
      let z : from - from ≡ 0 = omega arith in
      record { seeks = seeks_first (other digit) (take (from + 9) u) from; value = sym (valued_empty u from); small = rw z (omega arith); most = omega arith }

  module _ (i v : ℕ) (w : DigitsReading u from i v) where
    pub reading_low : from ≤ i
    reading_low = w.seeks.ahead

    pub reading_mul : i - from < 9 → Fits w32 (v * 10)
    reading_mul l = record { fits = omega (arith, w.small, power_most (i - from) l) }

    -- the digits end at i
    done : find (other digit) (take (from + 9) u) from ≡ i → Gives (digits_at from (read_digits (drop from u))) (record { number = v; end = i })
    done e = by (decide (ltb (length u) from))
      where
        answer : read_digits (drop from u) ≡ slice from i u → from + length (slice from i u) ≡ i → Gives (digits_at from (read_digits (drop from u))) (record { number = v; end = i })
        answer p q = record {
          answer = sym (ap (digits_at from) p ∙ ap (λ (k : ℕ). record { number = valued (slice from i u); end = k }) q ∙ ap (λ (k : ℕ). record { number = k; end = i }) (sym w.value));
        }

        by : (ltb (length u) from ≡ true) ⊎ (ltb (length u) from ≡ false) → Gives (digits_at from (read_digits (drop from u))) (record { number = v; end = i })
        by (inl x) =
            let h = ltb-true (length u) from x in
            let z : i ≡ from = sym e ∙ find_end (other digit) (take (from + 9) u) from (omega (arith, length-take (from + 9) u)) in
            let n : slice from i u ≡ [] = ap (λ (k : ℕ). slice from k u) z ∙ slice_empty from u in
            answer (read_none (drop from u) (drop_of_length-le u {i = from} (omega arith)) ∙ sym n) (omega (arith, ap length n))
        by (inr x) =
            let h = ltb-false (length u) from x in
            let c : length (take (from + 9) u) ≡ min (from + 9) (length u) = length-take (from + 9) u in
            let f = find_le (other digit) (take (from + 9) u) from (omega arith) in
            answer
            (ap (leading digit) (take-drop 9 from u)
            ∙ leading-is digit (take (from + 9) u) from (omega arith)
            ∙ ap (λ (k : ℕ). slice from k (take (from + 9) u)) e
            ∙ ap (drop from) (take-take i (from + 9) u w.most))
            (omega (arith, length-slice from i u (omega arith), w.seeks.ahead))

    size : length (take (from + 9) u) ≡ min (from + 9) (length u)
    size = length-take (from + 9) u

    pub reading_full : 9 ≤ i - from → Gives (digits_at from (read_digits (drop from u))) (record { number = v; end = i })
    reading_full h = done (w.seeks.same ∙ find_end (other digit) (take (from + 9) u) i (omega (arith, size)))

    pub reading_end : length u ≤ i → Gives (digits_at from (read_digits (drop from u))) (record { number = v; end = i })
    reading_end h = done (w.seeks.same ∙ find_end (other digit) (take (from + 9) u) i (omega (arith, size)))

    module _ (x : ℕ) (y : Bool) (h : i < length u) (l : i - from < 9) where
      byte : get_or (take (from + 9) u) i 0 ≡ get_or u i 0
      byte = get_or-take (from + 9) u i 0 (omega (arith, w.seeks.ahead))

      pub reading_stop : y ≡ false → Gives (digit x) y → Gives (get_or u i 0) x → Gives (digits_at from (read_digits (drop from u))) (record { number = v; end = i })
      reading_stop e d b = done (w.seeks.same ∙ find_here (other digit) (take (from + 9) u) i (omega (arith, size, w.seeks.ahead)) (other_yes digit (get_or (take (from + 9) u) i 0) (ap digit (byte ∙ sym b.answer) ∙ sym d.answer ∙ e)))

      pub reading_add : (n : ℕ) → y ≡ true → Gives (digit x) y → Gives (x - 48) n → Fits w32 (v * 10 + n)
      reading_add n e d c = record { fits = omega (arith, w.small, power_most (i - from) l, digit_most x (sym d.answer ∙ e), c.answer) }

      pub reading_again : (n : ℕ) → y ≡ true → Gives (digit x) y → Gives (get_or u i 0) x → Gives (x - 48) n → DigitsReading u from (i + 1) (v * 10 + n)
      reading_again n e d b c =
          let a = w.seeks.ahead in
          let z : i + 1 - from ≡ suc (i - from) = omega arith in
          record {
            seeks = seeks_again (other digit) (take (from + 9) u) from i w.seeks (omega (arith, size)) (other_no digit (get_or (take (from + 9) u) i 0) (ap digit (byte ∙ sym b.answer) ∙ sym d.answer ∙ e));
            value = rw (c.answer, b.answer, w.value) (sym (valued_slice u from i a h));
            small = rw z (omega (arith, w.small, digit_most x (sym d.answer ∙ e), c.answer));
            most = omega arith;
          }

pub ruleset reading_rules = (reading_first, reading_full, reading_end, reading_stop, reading_again)

-- ---- counts of digits
pub few_none : (m : ℕ) → few m ≡ 0 → one_to_nine m ≡ false
few_none m e = by (decide (leb m 9))
  where
    by : (leb m 9 ≡ true) ⊎ (leb m 9 ≡ false) → one_to_nine m ≡ false
    by (inl u) = let z : m ≡ 0 = sym (simp u) ∙ e in rw (le-ltb 0 m (omega arith))
    by (inr u) = rw u (and-false (ltb 0 m))

pub few_some : (m : ℕ) → (few m ≡ 0 → ⊥) → (few m ≡ m) × (one_to_nine m ≡ true)
few_some m n = by (decide (leb m 9))
  where
    by : (leb m 9 ≡ true) ⊎ (leb m 9 ≡ false) → (few m ≡ m) × (one_to_nine m ≡ true)
    by (inl u) =
        let z : few m ≡ m = simp u in
        let l : 0 < m = ⊎_elim (λ (v : ltb 0 m ≡ true). ltb-true 0 m v) (λ v. absurd (n (z ∙ (let k : m ≡ 0 = omega (arith, ltb-false 0 m v) in k)))) (decide (ltb 0 m)) in
        (z, rw (u, lt-ltb 0 m l))
    by (inr u) = absurd (n (simp u))

pub few-within : (s : List ℕ) (p : ℕ) (r : Trail) → Gives (trail_at s p (few (back digit s p))) r → r.count ≤ p
few-within s p r g = by (decide (leb (back digit s p) 9))
  where
    count : r.count ≡ few (back digit s p)
    count = ap (λ (w : Trail). w.count) g.answer

    by : (leb (back digit s p) 9 ≡ true) ⊎ (leb (back digit s p) 9 ≡ false) → r.count ≤ p
    by (inl u) = let z : r.count ≡ back digit s p = count ∙ simp u in omega (arith, back_le digit s p)
    by (inr u) = let z : r.count ≡ 0 = count ∙ simp u in omega arith

pub one_to_nine_lem : (m : ℕ) → one_to_nine m ≡ true → (0 < m) × (m ≤ 9)
one_to_nine_lem m e = let w = and_true (ltb 0 m) (leb m 9) e in (ltb-true 0 m w.0, leb-true m 9 w.1)

pub nine_yes : (m : ℕ) → 0 < m → m ≤ 9 → one_to_nine m ≡ true
nine_yes m h l = rw (lt-ltb 0 m h, le-leb m 9 l)

-- ---- nine digits write small numbers
all-leading : (l : List ℕ) → all_digits (leading digit l) ≡ true
unfolding leading
all-leading [] = refl
all-leading (x ∷ l) = by (decide (digit x)) (all-leading l)
  where
    by : (digit x ≡ true) ⊎ (digit x ≡ false) → all_digits (leading digit l) ≡ true → all_digits (leading digit (x ∷ l)) ≡ true
    by (inl y) ih = rw (leading_yes digit x l y, y, ih)
    by (inr y) ih = rw (leading_no digit x l y)

pub digits_small : (l : List ℕ) → length (leading digit l) ≤ 9 → valued (leading digit l) < 1000000000
digits_small l h =
    let p = pow-le-pow_right {n = 10} (omega arith) {i = length (leading digit l)} {j = 9} h in
    omega (arith, valued-few 0 (leading digit l) (all-leading l))

-- ---- the leading bytes of a front
module _ (t : ℕ → Bool) where
  -- few enough: those of the whole
  pub leading-few : (n : ℕ) (l : List ℕ) → length (leading t l) ≤ n → leading t (take n l) ≡ leading t l
  unfolding leading
  leading-few zero [] h = refl
  leading-few (suc n) [] h = refl
  leading-few zero (x ∷ l) h = by (decide (t x))
    where
      by : (t x ≡ true) ⊎ (t x ≡ false) → leading t [] ≡ leading t (x ∷ l)
      by (inl y) = absurd (omega (arith, ap length (leading_yes t x l y)))
      by (inr y) = sym (leading_no t x l y)
  leading-few (suc n) (x ∷ l) h = by (decide (t x)) (leading-few n l)
    where
      by : (t x ≡ true) ⊎ (t x ≡ false) → (length (leading t l) ≤ n → leading t (take n l) ≡ leading t l) → leading t (x ∷ take n l) ≡ leading t (x ∷ l)
      by (inl y) ih = leading_yes t x (take n l) y ∙ ap (λ (k : List ℕ). x ∷ k) (ih (omega (arith, ap length (leading_yes t x l y)))) ∙ sym (leading_yes t x l y)
      by (inr y) ih = leading_no t x (take n l) y ∙ sym (leading_no t x l y)

  -- more: all of the front, with one more behind it
  pub leading_many : (n : ℕ) (l : List ℕ) → n < length (leading t l) → (length (leading t (take n l)) ≡ n) × ((x : ℕ) × (r : List ℕ) × (drop n l ≡ x ∷ r) × (t x ≡ true))
  unfolding leading
  leading_many zero [] h = absurd (omega arith)
  leading_many (suc n) [] h = absurd (omega arith)
  leading_many zero (x ∷ l) h = by (decide (t x))
    where
      by : (t x ≡ true) ⊎ (t x ≡ false) → (length (leading t []) ≡ 0) × ((y : ℕ) × (r : List ℕ) × ((x ∷ l) ≡ y ∷ r) × (t y ≡ true))
      by (inl y) = (refl, (x, l, refl, y))
      by (inr y) = absurd (omega (arith, ap length (leading_no t x l y)))
  leading_many (suc n) (x ∷ l) h = by (decide (t x)) (leading_many n l)
    where
      by : (t x ≡ true) ⊎ (t x ≡ false) → (n < length (leading t l) → (length (leading t (take n l)) ≡ n) × ((y : ℕ) × (r : List ℕ) × (drop n l ≡ y ∷ r) × (t y ≡ true)))
          → (length (leading t (x ∷ take n l)) ≡ suc n) × ((y : ℕ) × (r : List ℕ) × (drop n l ≡ y ∷ r) × (t y ≡ true))
      by (inl y) ih = let w = ih (omega (arith, ap length (leading_yes t x l y))) in (ap length (leading_yes t x (take n l) y) ∙ ap suc w.0, w.1)
      by (inr y) ih = absurd (omega (arith, ap length (leading_no t x l y)))

  -- what is behind the leading bytes
  pub drop-leading : (l : List ℕ) → drop (length (leading t l)) l ≡ beyond t l
  unfolding leading beyond
  drop-leading [] = refl
  drop-leading (x ∷ l) = by (decide (t x)) (drop-leading l)
    where
      by : (t x ≡ true) ⊎ (t x ≡ false) → drop (length (leading t l)) l ≡ beyond t l → drop (length (leading t (x ∷ l))) (x ∷ l) ≡ beyond t (x ∷ l)
      by (inl y) ih = ap (λ (k : List ℕ). drop (length k) (x ∷ l)) (leading_yes t x l y) ∙ ih ∙ sym (beyond_yes t x l y)
      by (inr y) ih = ap (λ (k : List ℕ). drop (length k) (x ∷ l)) (leading_no t x l y) ∙ sym (beyond_no t x l y)
