-- Laws of the searches: bounds, hit, miss, what a text before or behind changes; of runs back; of lines. Assumes nothing.
use Rattle.std.specs.Prelude.{◌≡◌, refl, Bool, true, false, not, ◌&&◌, ◌||◌, List, [], ◌∷◌, ◌++◌, ◌⊎◌, ℕ, zero, suc, ◌+◌, ◌-◌, ◌≤◌, ◌<◌, min, max, eqb, ltb, leb, get_or, take, drop, reverse, position, cond, Option, Some, None, unwrap_or}
use Rattle.std.specs.List.{between, position_or_len, prefix_len}
use Rattle.std.proofs.lemmas.List.{get_or-drop, reverse-append}
use Rattle.std.proofs.lemmas.List.Folds.{length-prefix_len}
use Rattle.std.proofs.lemmas.List.Sums.{prefix_len-le-length, passes_at_first, fails_before_first}
use Rattle.std.proofs.lemmas.Slice.{between_to_end, between_from_start}
use Rattle.std.proofs.Math.Path.{sym, ap}
use Rattle.std.proofs.Common.{◌∙◌, inl, inr, ⊎_elim, not-suc-le-zero, add-zero, add-suc, add-one, sub-one, arith, length-take, length-drop, take-append-drop, take-suc, take_all, drop_of_length-le, get_or-append-add, drop-cons, get_or-take}
use Rattle.std.proofs.Math.Bool.{or-true, or_assoc}
use Rattle.std.proofs.Math.ListN.{length, length-append, get_or-append, get_or-eq_default}
use borrow.Author.Tests.{eq-eqb, ne_eqb, eqb-true, eqb-false, lt-ltb, le-ltb, ltb-true, ltb-false, leb-true, leb-false, le-leb, lt-leb}
use Rattle.search.specs.Promise.{Gives}
use Rattle.search.specs.Search.{is, either, one_of, digit, other, holds, first_of, first_place, find, Sought, back, line_start, line_end, after_line}

-- ---- truth values
pub decide : (y : Bool) → (y ≡ true) ⊎ (y ≡ false)
decide true = inl refl
decide false = inr refl

pub clash : {y : Bool} → y ≡ true → y ≡ false → ⊥
clash p q = let z : ◌≡◌ {A = ℕ} 0 1 = ap (λ (y : Bool). elim y as (λ x. ℕ) [ true ↦ 1 | false ↦ 0 ]) (sym q ∙ p) in omega arith

pub and_true : (a b : Bool) → (a && b) ≡ true → (a ≡ true) × (b ≡ true)
and_true true b e = (refl, e)
and_true false b e = absurd (clash e refl)

pub neither : (a b : Bool) → (a || b) ≡ false → (a ≡ false) × (b ≡ false)
neither true b e = absurd (clash refl e)
neither false b e = (refl, e)

-- ---- a number of a list, or 0 past its end
pub past_end : (l : List ℕ) (i : ℕ) → length l ≤ i → 0 ≡ get_or l i 0
past_end l i h = sym (get_or-eq_default l 0 {n = i} h)

-- ---- tests of a byte
pub is_yes : (b x : ℕ) → x ≡ b → is b x ≡ true
unfolding is
is_yes b x e = eq-eqb x b e

pub is_no : (b x : ℕ) → (x ≡ b → ⊥) → is b x ≡ false
unfolding is
is_no b x e = ne_eqb x b e

pub is_true : (b x : ℕ) → is b x ≡ true → x ≡ b
unfolding is
is_true b x e = eqb-true x b e

pub is_false : (b x : ℕ) → is b x ≡ false → x ≡ b → ⊥
unfolding is
is_false b x e = eqb-false x b e

pub either_left : (b c x : ℕ) → x ≡ b → either b c x ≡ true
unfolding either
either_left b c x e = rw (eq-eqb x b e)

pub either_right : (b c x : ℕ) → x ≡ c → either b c x ≡ true
unfolding either
either_right b c x e = rw (eq-eqb x c e) (or-true (eqb x b))

pub either_none : (b c x : ℕ) → (x ≡ b → ⊥) → (x ≡ c → ⊥) → either b c x ≡ false
unfolding either
either_none b c x e f = rw (ne_eqb x b e, ne_eqb x c f)

pub either_true : (b c x : ℕ) → either b c x ≡ true → (x ≡ b) ⊎ (x ≡ c)
unfolding either
either_true b c x e = by (decide (eqb x b)) (decide (eqb x c))
  where
    by : (eqb x b ≡ true) ⊎ (eqb x b ≡ false) → (eqb x c ≡ true) ⊎ (eqb x c ≡ false) → (x ≡ b) ⊎ (x ≡ c)
    by (inl u) v = inl (eqb-true x b u)
    by (inr u) (inl v) = inr (eqb-true x c v)
    by (inr u) (inr v) = absurd (clash e (rw (u, v)))

-- ---- a digit
-- a digit lies from 48 to 57
pub digit-bounds : (x : ℕ) → digit x ≡ true → (48 ≤ x) × (x ≤ 57)
unfolding digit
digit-bounds x e = let w = and_true (leb 48 x) (leb x 57) e in (leb-true 48 x w.0, leb-true x 57 w.1)

-- it is worth nine at the most
pub digit_most : (x : ℕ) → digit x ≡ true → x - 48 ≤ 9
digit_most x e = omega (arith, digit-bounds x e)

-- 0, the byte past a text's end, is none
pub digit_none : digit 0 ≡ false
unfolding digit
digit_none = refl

pub other_yes : (t : ℕ → Bool) (x : ℕ) → t x ≡ false → other t x ≡ true
unfolding other
other_yes t x e = ap not e

pub other_no : (t : ℕ → Bool) (x : ℕ) → t x ≡ true → other t x ≡ false
unfolding other
other_no t x e = ap not e

pub other_false : (t : ℕ → Bool) (x : ℕ) → other t x ≡ false → t x ≡ true
unfolding other
other_false t x e = by (decide (t x))
  where
    by : (t x ≡ true) ⊎ (t x ≡ false) → t x ≡ true
    by (inl u) = u
    by (inr u) = absurd (clash (ap not u) e)

pub either_false : (b c x : ℕ) → either b c x ≡ false → (is b x ≡ false) × (is c x ≡ false)
unfolding either is
either_false b c x e = by (decide (eqb x b)) (decide (eqb x c))
  where
    by : (eqb x b ≡ true) ⊎ (eqb x b ≡ false) → (eqb x c ≡ true) ⊎ (eqb x c ≡ false) → (eqb x b ≡ false) × (eqb x c ≡ false)
    by (inl u) v = absurd (clash (either_left b c x (eqb-true x b u)) e)
    by (inr u) (inl v) = absurd (clash (either_right b c x (eqb-true x c v)) e)
    by (inr u) (inr v) = (u, v)

pub ruleset byte_rules = (is_yes, is_no, either_left, either_right, either_none, other_yes, other_no)

-- a list's number is passed over, or found
one_here : (y : ℕ) (ys : List ℕ) (x : ℕ) → x ≡ y → one_of (y ∷ ys) x ≡ true
unfolding one_of
one_here y ys x e = rw (eq-eqb x y e)

one_next : (y : ℕ) (ys : List ℕ) (x : ℕ) → (x ≡ y → ⊥) → one_of (y ∷ ys) x ≡ one_of ys x
unfolding one_of
one_next y ys x e = rw (ne_eqb x y e)

one_none : (x : ℕ) → one_of [] x ≡ false
unfolding one_of
one_none x = refl

pub one_append : (a b : List ℕ) (x : ℕ) → one_of (a ++ b) x ≡ (one_of a x || one_of b x)
unfolding one_of
one_append [] b x = refl
one_append (y ∷ ys) b x = ap (λ (z : Bool). eqb x y || z) (one_append ys b x) ∙ sym (or_assoc (eqb x y) (one_of ys x) (one_of b x))

-- ---- the invariant of a loop over the first n numbers of a list, and its rules
pub record Among (l : List ℕ) (n x k : ℕ) : Type 0 where
  pub same : one_of (take n l) x ≡ one_of (drop k (take n l)) x

module _ (l : List ℕ) (n x k : ℕ) where
  pub among_first : Among l n x 0
  among_first = record { same = refl }

  part : k < n → k < length l → drop k (take n l) ≡ get_or l k 0 ∷ drop (k + 1) (take n l)
  part h m = drop-cons (take n l) k 0 (omega (arith, length-take n l)) ∙ rw (add-one, get_or-take n l k 0 h)

  -- where m is as many as the list has of the first n
  module _ (m : ℕ) (few : Gives (min n (length l)) m) where
    pub among_again : Among l n x k → k < m → (x ≡ get_or l k 0 → ⊥) → Among l n x (k + 1)
    among_again w h e =
        record { same = w.same ∙ ap (λ (z : List ℕ). one_of z x) (part (omega (arith, few.answer)) (omega (arith, few.answer))) ∙ one_next (get_or l k 0) (drop (k + 1) (take n l)) x e }

    pub among_found : Among l n x k → k < m → x ≡ get_or l k 0 → true ≡ one_of (take n l) x
    among_found w h e = sym (w.same ∙ ap (λ (z : List ℕ). one_of z x) (part (omega (arith, few.answer)) (omega (arith, few.answer))) ∙ one_here (get_or l k 0) (drop (k + 1) (take n l)) x e)

    pub among_end : Among l n x k → m ≤ k → false ≡ one_of (take n l) x
    among_end w h = sym (w.same ∙ ap (λ (z : List ℕ). one_of z x) (drop_of_length-le (take n l) (let z : length (take n l) ≤ k = omega (arith, length-take n l, few.answer) in z)) ∙ one_none x)

-- ---- a byte of a text
pub holds_in : (t : ℕ → Bool) (s : List ℕ) (k : ℕ) → k < length s → holds t s k ≡ t (get_or s k 0)
unfolding holds
holds_in t s k h = rw (lt-ltb k (length s) h)

pub holds-past : (t : ℕ → Bool) (s : List ℕ) (k : ℕ) → length s ≤ k → holds t s k ≡ false
unfolding holds
holds-past t s k h = rw (le-ltb k (length s) h)

pub holds_none : (t : ℕ → Bool) (s : List ℕ) (k : ℕ) → length s ≤ k → false ≡ holds t s k
holds_none t s k h = sym (holds-past t s k h)

pub holds_true : (t : ℕ → Bool) (s : List ℕ) (k : ℕ) → holds t s k ≡ true → (k < length s) × (t (get_or s k 0) ≡ true)
unfolding holds
holds_true t s k e = let w = and_true (ltb k (length s)) (t (get_or s k 0)) e in (ltb-true k (length s) w.0, w.1)

pub holds_prefix : (t : ℕ → Bool) (a b : List ℕ) (k : ℕ) → k < length a → holds t (a ++ b) k ≡ holds t a k
holds_prefix t a b k h = holds_in t (a ++ b) k (omega (arith, length-append a b)) ∙ ap t (get_or-append a b 0 k h) ∙ sym (holds_in t a k h)

pub holds_shift : (t : ℕ → Bool) (a b : List ℕ) (k : ℕ) → holds t (a ++ b) (length a + k) ≡ holds t b k
holds_shift t a b k = by (decide (ltb k (length b)))
  where
    by : (ltb k (length b) ≡ true) ⊎ (ltb k (length b) ≡ false) → holds t (a ++ b) (length a + k) ≡ holds t b k
    by (inl u) =
        holds_in t (a ++ b) (length a + k) (omega (arith, length-append a b, ltb-true k (length b) u))
        ∙ ap t (get_or-append-add a b k 0)
        ∙ sym (holds_in t b k (ltb-true k (length b) u))
    by (inr u) =
        holds-past t (a ++ b) (length a + k) (omega (arith, length-append a b, ltb-false k (length b) u)) ∙ sym (holds-past t b k (ltb-false k (length b) u))

-- ---- the first place at which a test holds
first_true : (t : ℕ → Bool) (n q : ℕ) → t q ≡ true → first_of t (suc n) q ≡ q
unfolding first_of
first_true t n q e = rw (e, first_of)

first_false : (t : ℕ → Bool) (n q : ℕ) → t q ≡ false → first_of t (suc n) q ≡ first_of t n (suc q)
unfolding first_of
first_false t n q e = rw (e, first_of)

first_of_ge : (t : ℕ → Bool) (n q : ℕ) → q ≤ first_of t n q
unfolding first_of
first_of_ge t zero q = omega arith
first_of_ge t (suc n) q = by (t q) refl (first_of_ge t n (suc q))
  where
    by : (y : Bool) → t q ≡ y → suc q ≤ first_of t n (suc q) → q ≤ first_of t (suc n) q
    by true e i = rw (first_true t n q e) (omega arith)
    by false e i = rw (first_false t n q e) (omega arith)

first_of_le : (t : ℕ → Bool) (n q : ℕ) → first_of t n q ≤ q + n
unfolding first_of
first_of_le t zero q = omega arith
first_of_le t (suc n) q = by (t q) refl (first_of_le t n (suc q))
  where
    by : (y : Bool) → t q ≡ y → first_of t n (suc q) ≤ suc q + n → first_of t (suc n) q ≤ q + suc n
    by true e i = rw (first_true t n q e) (omega arith)
    by false e i = rw (first_false t n q e) (omega arith)

first_of_before : (t : ℕ → Bool) (n q k : ℕ) → q ≤ k → k < first_of t n q → t k ≡ false
unfolding first_of
first_of_before t zero q k h l = absurd (omega arith)
first_of_before t (suc n) q k h l = by (t q) refl (first_of_before t n (suc q) k) (decide (ltb q k))
  where
    by : (y : Bool) → t q ≡ y → (suc q ≤ k → k < first_of t n (suc q) → t k ≡ false) → (ltb q k ≡ true) ⊎ (ltb q k ≡ false) → t k ≡ false
    by true e i d = absurd (omega (arith, first_true t n q e))
    by false e i (inl u) = i (ltb-true q k u) (omega (arith, first_false t n q e))
    by false e i (inr u) = let z : k ≡ q = omega (arith, ltb-false q k u) in rw z e

first_of-at : (t : ℕ → Bool) (n q : ℕ) → first_of t n q < q + n → t (first_of t n q) ≡ true
unfolding first_of
first_of-at t zero q l = absurd (omega arith)
first_of-at t (suc n) q l = by (t q) refl (first_of-at t n (suc q))
  where
    by : (y : Bool) → t q ≡ y → (first_of t n (suc q) < suc q + n → t (first_of t n (suc q)) ≡ true) → t (first_of t (suc n) q) ≡ true
    by true e i = rw (first_true t n q e) e
    by false e i = rw (first_false t n q e) (i (omega (arith, first_false t n q e)))

module _ (t : ℕ → Bool) where
  pub first_ge : (q e : ℕ) → q ≤ first_place t q e
  unfolding first_place
  first_ge q e = first_of_ge t (e - q) q

  pub first_le : (q e : ℕ) → q ≤ e → first_place t q e ≤ e
  unfolding first_place
  first_le q e h = omega (arith, first_of_le t (e - q) q)

  pub first_end : (q e : ℕ) → e ≤ q → first_place t q e ≡ q
  unfolding first_place
  first_end q e h = omega (arith, first_of_le t (e - q) q, first_of_ge t (e - q) q)

  -- every place before the first fails the test
  pub first_before : (q e k : ℕ) → q ≤ k → k < first_place t q e → t k ≡ false
  unfolding first_place
  first_before q e k h l = first_of_before t (e - q) q k h l

  -- the first passes it
  pub first-at : (q e : ℕ) → first_place t q e < e → t (first_place t q e) ≡ true
  unfolding first_place
  first-at q e l = first_of-at t (e - q) q (omega (arith, first_of_ge t (e - q) q))

  pub first-is : (q k e : ℕ) → q ≤ k → k < e → ((j : ℕ) → q ≤ j → j < k → t j ≡ false) → t k ≡ true → first_place t q e ≡ k
  first-is q k e h l miss hit = by (decide (ltb (first_place t q e) k)) (decide (ltb k (first_place t q e)))
    where
      by : (ltb (first_place t q e) k ≡ true) ⊎ (ltb (first_place t q e) k ≡ false) → (ltb k (first_place t q e) ≡ true) ⊎ (ltb k (first_place t q e) ≡ false)
          → first_place t q e ≡ k
      by (inl u) v =
          let m = ltb-true (first_place t q e) k u in
          absurd (clash (first-at q e (omega arith)) (miss (first_place t q e) (first_ge q e) m))
      by (inr u) (inl v) = absurd (clash hit (first_before q e k h (ltb-true k (first_place t q e) v)))
      by (inr u) (inr v) = omega (arith, ltb-false (first_place t q e) k u, ltb-false k (first_place t q e) v)

  pub first_none : (q e : ℕ) → q ≤ e → ((j : ℕ) → q ≤ j → j < e → t j ≡ false) → first_place t q e ≡ e
  first_none q e h miss = by (decide (ltb (first_place t q e) e))
    where
      by : (ltb (first_place t q e) e ≡ true) ⊎ (ltb (first_place t q e) e ≡ false) → first_place t q e ≡ e
      by (inl u) =
          let m = ltb-true (first_place t q e) e u in
          absurd (clash (first-at q e m) (miss (first_place t q e) (first_ge q e) m))
      by (inr u) = omega (arith, ltb-false (first_place t q e) e u, first_le q e h)

  -- places that fail are passed over
  pub first-over : (q n e : ℕ) → q ≤ n → n ≤ e → ((j : ℕ) → q ≤ j → j < n → t j ≡ false) → first_place t q e ≡ first_place t n e
  first-over q n e h l miss = by (decide (ltb (first_place t n e) e))
    where
      p : ℕ
      p = first_place t n e

      all : (j : ℕ) → q ≤ j → j < first_place t n e → t j ≡ false
      all j a b =
          ⊎_elim (λ (u : ltb j n ≡ true). miss j a (ltb-true j n u)) (λ u. first_before n e j (ltb-false j n u) b) (decide (ltb j n))

      by : (ltb (first_place t n e) e ≡ true) ⊎ (ltb (first_place t n e) e ≡ false) → first_place t q e ≡ first_place t n e
      by (inl u) =
          let m = ltb-true (first_place t n e) e u in
          first-is q (first_place t n e) e (omega (arith, first_ge n e)) m all (first-at n e m)
      by (inr u) =
          let m : first_place t n e ≡ e = omega (arith, ltb-false (first_place t n e) e u, first_le n e l) in
          first_none q e (omega arith) (λ j a b. all j a (omega arith)) ∙ sym m

  pub first_here : (q e : ℕ) → q < e → t q ≡ true → first_place t q e ≡ q
  first_here q e h y = first-is q q e (omega arith) h (λ j a b. absurd (omega arith)) y

  pub first_next : (q e : ℕ) → q < e → t q ≡ false → first_place t q e ≡ first_place t (q + 1) e
  first_next q e h y = first-over q (q + 1) e (omega arith) (omega arith) (λ j a b. let z : j ≡ q = omega arith in rw z y)

  -- from a place that the search passed it ends where it does
  pub first_from : (q k e : ℕ) → q ≤ e → q ≤ k → k ≤ first_place t q e → first_place t q e ≡ first_place t k e
  first_from q k e g h l = first-over q k e h (omega (arith, first_le q e g)) (λ j a b. first_before q e j a (omega arith))

  pub first_hit : (q k e : ℕ) → q ≤ k → k < e → t k ≡ true → first_place t q e ≤ k
  first_hit q k e h l y = by (decide (ltb k (first_place t q e)))
    where
      by : (ltb k (first_place t q e) ≡ true) ⊎ (ltb k (first_place t q e) ≡ false) → first_place t q e ≤ k
      by (inl u) = absurd (clash y (first_before q e k h (ltb-true k (first_place t q e) u)))
      by (inr u) = ltb-false k (first_place t q e) u

-- ---- two tests: t over places up to e, t' over as many that stand k further on, or over more
module _ (t t' : ℕ → Bool) where
  pub first-move : (k q e : ℕ) → ((j : ℕ) → q ≤ j → j < e → t' (k + j) ≡ t j) → first_place t' (k + q) (k + e) ≡ k + first_place t q e
  first-move k q e same = by (decide (ltb q e)) (decide (ltb (first_place t q e) e))
    where
      miss : q ≤ e → (p : ℕ) → p ≤ e → ((j : ℕ) → q ≤ j → j < p → t j ≡ false) → (j : ℕ) → k + q ≤ j → j < k + p → t' j ≡ false
      miss h p l f j a b =
          let z : k + (j - k) ≡ j = omega arith in
          sym (ap t' z) ∙ same (j - k) (omega arith) (omega arith) ∙ f (j - k) (omega arith) (omega arith)

      by : (ltb q e ≡ true) ⊎ (ltb q e ≡ false) → (ltb (first_place t q e) e ≡ true) ⊎ (ltb (first_place t q e) e ≡ false) → first_place t' (k + q) (k + e) ≡ k + first_place t q e
      by (inl u) (inl v) =
          let h = ltb-true q e u in
          let l = ltb-true (first_place t q e) e v in
          let g = first_ge t q e in
          first-is t' (k + q) (k + first_place t q e) (k + e) (omega arith) (omega arith)
          (miss (omega arith) (first_place t q e) (omega arith) (first_before t q e)) (same (first_place t q e) g l ∙ first-at t q e l)
      by (inl u) (inr v) =
          let h = ltb-true q e u in
          let z : first_place t q e ≡ e = omega (arith, ltb-false (first_place t q e) e v, first_le t q e (omega arith)) in
          first_none t' (k + q) (k + e) (omega arith) (miss (omega arith) e (omega arith) (λ j a b. first_before t q e j a (omega arith))) ∙ ap (k +◌) (sym z)
      by (inr u) v =
          let h = ltb-false q e u in
          first_end t' (k + q) (k + e) (omega arith) ∙ ap (k +◌) (sym (first_end t q e h))

  pub first_prefix : (q e e' : ℕ) → e ≤ e' → ((j : ℕ) → q ≤ j → j < e → t' j ≡ t j) → first_place t q e < e → first_place t' q e' ≡ first_place t q e
  first_prefix q e e' h same l =
      let g = first_ge t q e in
      first-is t' q (first_place t q e) e' g (omega arith) (λ j a b. same j a (omega arith) ∙ first_before t q e j a b) (same (first_place t q e) g l ∙ first-at t q e l)

  pub first_past : (q e e' : ℕ) → q ≤ e → e ≤ e' → ((j : ℕ) → q ≤ j → j < e → t' j ≡ t j) → e ≤ first_place t q e → first_place t' q e' ≡ first_place t' e e'
  first_past q e e' g h same l = first-over t' q e e' g h (λ j a b. same j a b ∙ first_before t q e j a (omega arith))

-- ---- the first byte that passes a test
module _ (t : ℕ → Bool) (s : List ℕ) where
  pub find_ge : (i : ℕ) → i ≤ find t s i
  unfolding find
  find_ge i = first_ge (holds t s) i (length s)

  pub find_le : (i : ℕ) → i ≤ length s → find t s i ≤ length s
  unfolding find
  find_le i h = first_le (holds t s) i (length s) h

  pub find_end : (i : ℕ) → length s ≤ i → find t s i ≡ i
  unfolding find
  find_end i h = first_end (holds t s) i (length s) h

  pub find_here : (i : ℕ) → i < length s → t (get_or s i 0) ≡ true → find t s i ≡ i
  unfolding find
  find_here i h y = first_here (holds t s) i (length s) h (holds_in t s i h ∙ y)

  pub find-next : (i : ℕ) → i < length s → t (get_or s i 0) ≡ false → find t s i ≡ find t s (i + 1)
  unfolding find
  find-next i h y = first_next (holds t s) i (length s) h (holds_in t s i h ∙ y)

  pub find-max : (i : ℕ) → find t s i ≤ max i (length s)
  find-max i = by (decide (ltb i (length s)))
    where
      by : (ltb i (length s) ≡ true) ⊎ (ltb i (length s) ≡ false) → find t s i ≤ max i (length s)
      by (inl u) = let h = ltb-true i (length s) u in omega (arith, find_le i (omega arith))
      by (inr u) = omega (arith, find_end i (ltb-false i (length s) u))

  -- every byte that the search passed fails the test, the byte where it ends passes it
  pub find_before : (i k : ℕ) → i ≤ k → k < find t s i → t (get_or s k 0) ≡ false
  unfolding find
  find_before i k h l =
      let m : k < length s = by (decide (ltb i (length s))) in
      sym (holds_in t s k m) ∙ first_before (holds t s) i (length s) k h l
    where
      by : (ltb i (length s) ≡ true) ⊎ (ltb i (length s) ≡ false) → k < length s
      by (inl u) = let h = ltb-true i (length s) u in omega (arith, first_le (holds t s) i (length s) (omega arith))
      by (inr u) = omega (arith, first_end (holds t s) i (length s) (ltb-false i (length s) u))

  pub find_at : (i : ℕ) → find t s i < length s → t (get_or s (find t s i) 0) ≡ true
  unfolding find
  find_at i l = sym (holds_in t s (find t s i) l) ∙ first-at (holds t s) i (length s) l

  pub find-is : (i k : ℕ) → i ≤ k → k < length s → ((j : ℕ) → i ≤ j → j < k → t (get_or s j 0) ≡ false) → t (get_or s k 0) ≡ true → find t s i ≡ k
  unfolding find
  find-is i k h l miss y = first-is (holds t s) i k (length s) h l (λ j a b. holds_in t s j (omega arith) ∙ miss j a b) (holds_in t s k l ∙ y)

  pub find-over : (i k : ℕ) → i ≤ k → k ≤ length s → ((j : ℕ) → i ≤ j → j < k → t (get_or s j 0) ≡ false) → find t s i ≡ find t s k
  unfolding find
  find-over i k h l miss = first-over (holds t s) i k (length s) h l (λ j a b. holds_in t s j (omega arith) ∙ miss j a b)

  pub find_from : (i k : ℕ) → i ≤ length s → i ≤ k → k ≤ find t s i → find t s i ≡ find t s k
  unfolding find
  find_from i k g h l = first_from (holds t s) i k (length s) g h l

  pub find_hit : (i k : ℕ) → i ≤ k → k < length s → t (get_or s k 0) ≡ true → find t s i ≤ k
  unfolding find
  find_hit i k h l y = first_hit (holds t s) i k (length s) h l (holds_in t s k l ∙ y)

  pub sought : (i r : ℕ) → find t s i ≡ r → Sought t s i r
  sought i r e = record { here = sym e; low = omega (arith, find_ge i); high = omega (arith, find-max i) }

-- two answers that a search promises are one
pub sought_unique : {t : ℕ → Bool} {s : List ℕ} {i r r' : ℕ} → Sought t s i r → Sought t s i r' → r ≡ r'
sought_unique a b = a.here ∙ sym b.here

-- a text a with a text b behind it
module _ (t : ℕ → Bool) (a b : List ℕ) where
  pub find_shift : (i : ℕ) → find t (a ++ b) (length a + i) ≡ length a + find t b i
  unfolding find
  find_shift i =
      ap (first_place (holds t (a ++ b)) (length a + i)) (length-append a b)
      ∙ first-move (holds t b) (holds t (a ++ b)) (length a) i (length b) (λ j h l. holds_shift t a b j)

  pub find_prefix : (i : ℕ) → find t a i < length a → find t (a ++ b) i ≡ find t a i
  unfolding find
  find_prefix i l = first_prefix (holds t a) (holds t (a ++ b)) i (length a) (length (a ++ b)) (omega (arith, length-append a b)) (λ j h m. holds_prefix t a b j m) l

  pub find_past : (i : ℕ) → i ≤ length a → length a ≤ find t a i → find t (a ++ b) i ≡ find t (a ++ b) (length a)
  unfolding find
  find_past i h l = first_past (holds t a) (holds t (a ++ b)) i (length a) (length (a ++ b)) h (omega (arith, length-append a b)) (λ j k m. holds_prefix t a b j m) l

-- ---- a search in what is left of the text from i on
module _ (t : ℕ → Bool) (s rest : List ℕ) (i : ℕ) (cut : rest ≡ between i (length s) s) where
  left : rest ≡ drop i s
  left = cut ∙ between_to_end s i (length s) (omega arith)

  pub find_left : i ≤ length s → find t s i ≡ i + position_or_len t rest
  find_left h = by (decide (ltb p (length rest)))
    where
      p : ℕ
      p = position_or_len t rest

      at : (k : ℕ) → get_or rest k 0 ≡ get_or s (i + k) 0
      at k = ap (λ (l : List ℕ). get_or l k 0) left ∙ get_or-drop i s k 0

      long : length rest ≡ length s - i
      long = ap length left ∙ length-drop i s

      miss : (j : ℕ) → i ≤ j → j < i + p → t (get_or s j 0) ≡ false
      miss j a b =
          let z : i + (j - i) ≡ j = omega arith in
          ap (λ (k : ℕ). t (get_or s k 0)) (sym z) ∙ ap t (sym (at (j - i))) ∙ fails_before_first t rest (j - i) 0 (omega arith)

      by : (ltb p (length rest) ≡ true) ⊎ (ltb p (length rest) ≡ false) → find t s i ≡ i + p
      by (inl u) =
          let l = ltb-true p (length rest) u in
          find-is t s i (i + p) (omega arith) (omega (arith, long)) miss (ap t (sym (at p)) ∙ passes_at_first t rest 0 l)
      by (inr u) =
          let l = ltb-false p (length rest) u in
          let z : length s ≡ i + p = omega (arith, long, prefix_len-le-length (λ (x : ℕ). not (t x)) rest) in
          find-over t s i (length s) h (omega arith) (λ j a b. miss j a (omega arith)) ∙ find_end t s (length s) (omega arith) ∙ z

  -- where std's `position` looked for it
  pub sought_left : (o : Option ℕ) (r : ℕ) → i ≤ length s → o ≡ position t rest → r ≡ unwrap_or o (length rest) → Sought t s i (i + r)
  sought_left o r h f g = sought t s i (i + r) (find_left h ∙ ap (λ (k : ℕ). i + k) (sym (g ∙ ap (λ (u : Option ℕ). unwrap_or u (length rest)) f ∙ by (decide (ltb p (length rest))))))
    where
      p : ℕ
      p = position_or_len t rest

      by : (ltb p (length rest) ≡ true) ⊎ (ltb p (length rest) ≡ false) → unwrap_or (cond (ltb p (length rest)) (Some p) None) (length rest) ≡ p
      by (inl u) = rw u
      by (inr u) = rw u (omega (arith, ltb-false p (length rest) u, prefix_len-le-length (λ (x : ℕ). not (t x)) rest))

pub sought_past : (t : ℕ → Bool) (s : List ℕ) (i : ℕ) → length s < i → Sought t s i i
sought_past t s i h = sought t s i i (find_end t s i (omega arith))

-- ---- a search in the text's front before an end: it stops there
module _ (t : ℕ → Bool) (s : List ℕ) (i e m r : ℕ) (short : m ≡ min e (length s)) (found : Sought t (take m s) i r) where
  pub front_same : min (find t s i) e ≡ min r e
  front_same = by (decide (ltb r m)) (decide (ltb m i)) (decide (ltb e (length s)))
    where
      front : List ℕ
      front = take m s

      long : length front ≡ m
      long = omega (arith, length-take m s)

      whole : find t (front ++ drop m s) i ≡ find t s i
      whole = ap (λ (l : List ℕ). find t l i) (take-append-drop m s)

      past : i ≤ m → m ≤ r → m ≤ find t s i
      past h l =
          omega (arith, whole, find_past t front (drop m s) i (omega (arith, long)) (omega (arith, found.here, long)), find_ge t (front ++ drop m s) (length front), long)

      by : (ltb r m ≡ true) ⊎ (ltb r m ≡ false) → (ltb m i ≡ true) ⊎ (ltb m i ≡ false) → (ltb e (length s) ≡ true) ⊎ (ltb e (length s) ≡ false) → min (find t s i) e ≡ min r e
      by (inl u) w v = omega (arith, whole, find_prefix t front (drop m s) i (omega (arith, found.here, long, ltb-true r m u)), found.here)
      by (inr u) w (inr v) =
          let z : m ≡ length s = omega (arith, ltb-false e (length s) v) in
          omega (arith, ap (λ (l : List ℕ). find t l i) (take_all m s (omega arith)), found.here)
      by (inr u) (inl w) (inl v) = omega (arith, ltb-true e (length s) v, ltb-false r m u, ltb-true m i w, find_ge t s i)
      by (inr u) (inr w) (inl v) = omega (arith, ltb-true e (length s) v, ltb-false r m u, past (ltb-false m i w) (ltb-false r m u))

  pub front_all : leb e r ≡ leb e (find t s i)
  front_all = by (decide (leb e r))
    where
      by : (leb e r ≡ true) ⊎ (leb e r ≡ false) → leb e r ≡ leb e (find t s i)
      by (inl u) = u ∙ sym (le-leb e (find t s i) (omega (arith, leb-true e r u, front_same)))
      by (inr u) = u ∙ sym (lt-leb e (find t s i) (omega (arith, leb-false e r u, front_same)))

-- ---- the invariant of a loop that searches, and its rules
pub record Seeks (t : ℕ → Bool) (s : List ℕ) (from i : ℕ) : Type 0 where
  pub ahead : from ≤ i
  pub same : find t s from ≡ find t s i

pub seeks_first : (t : ℕ → Bool) (s : List ℕ) (i : ℕ) → Seeks t s i i
seeks_first t s i = record { ahead = omega arith; same = refl }

pub seeks_again : (t : ℕ → Bool) (s : List ℕ) (from i : ℕ) → Seeks t s from i → i < length s → t (get_or s i 0) ≡ false → Seeks t s from (i + 1)
seeks_again t s from i w l e = record { ahead = omega (arith, w.ahead); same = w.same ∙ find-next t s i l e }

pub seeks_found : (t : ℕ → Bool) (s : List ℕ) (from i : ℕ) → Seeks t s from i → i < length s → t (get_or s i 0) ≡ true → Sought t s from i
seeks_found t s from i w l e = sought t s from i (w.same ∙ find_here t s i l e)

pub seeks_end : (t : ℕ → Bool) (s : List ℕ) (from i : ℕ) → Seeks t s from i → length s ≤ i → Sought t s from i
seeks_end t s from i w l = sought t s from i (w.same ∙ find_end t s i l)

-- where a function told of the byte
module _ (t : ℕ → Bool) (s : List ℕ) (from i : ℕ) (y : Bool) (says : Gives (t (get_or s i 0)) y) (l : i < length s) where
  pub seeks_told_again : Seeks t s from i → y ≡ false → Seeks t s from (i + 1)
  seeks_told_again w e = seeks_again t s from i w l (sym says.answer ∙ e)

  pub seeks_told_found : Seeks t s from i → y ≡ true → Sought t s from i
  seeks_told_found w e = seeks_found t s from i w l (sym says.answer ∙ e)

  pub seeks_other_again : Seeks (other t) s from i → y ≡ true → Seeks (other t) s from (i + 1)
  seeks_other_again w e = seeks_again (other t) s from i w l (other_no t (get_or s i 0) (sym says.answer ∙ e))

  pub seeks_other_found : Seeks (other t) s from i → y ≡ false → Sought (other t) s from i
  seeks_other_found w e = seeks_found (other t) s from i w l (other_yes t (get_or s i 0) (sym says.answer ∙ e))

pub ruleset told_rules = (seeks_first, seeks_told_again, seeks_told_found, seeks_other_again, seeks_other_found, seeks_end)

pub ruleset seek_rules = (seeks_first, seeks_again, seeks_found, seeks_end, byte_rules)

-- ---- runs back
pub back_suc_true : (t : ℕ → Bool) (s : List ℕ) (k : ℕ) → holds t s k ≡ true → back t s (suc k) ≡ suc (back t s k)
unfolding back
back_suc_true t s k e = rw (e, back)

pub back_suc_false : (t : ℕ → Bool) (s : List ℕ) (k : ℕ) → holds t s k ≡ false → back t s (suc k) ≡ 0
unfolding back
back_suc_false t s k e = rw (e, back)

pub back_zero : (t : ℕ → Bool) (s : List ℕ) (k : ℕ) → k ≤ 0 → back t s k ≡ 0
unfolding back
back_zero t s zero h = refl
back_zero t s (suc k) h = absurd (not-suc-le-zero h)

pub back_true : (t : ℕ → Bool) (s : List ℕ) (k : ℕ) → 0 < k → k ≤ length s → t (get_or s (k - 1) 0) ≡ true → back t s k ≡ suc (back t s (k - 1))
back_true t s zero h l e = absurd (not-suc-le-zero h)
back_true t s (suc k) h l e = rw sub-one (back_suc_true t s k (holds_in t s k l ∙ (rw sub-one at e)))

pub back_false : (t : ℕ → Bool) (s : List ℕ) (k : ℕ) → 0 < k → k ≤ length s → t (get_or s (k - 1) 0) ≡ false → back t s k ≡ 0
back_false t s zero h l e = absurd (not-suc-le-zero h)
back_false t s (suc k) h l e = back_suc_false t s k (holds_in t s k l ∙ (rw sub-one at e))

pub back-past : (t : ℕ → Bool) (s : List ℕ) (k : ℕ) → length s < k → back t s k ≡ 0
back-past t s zero h = absurd (not-suc-le-zero h)
back-past t s (suc k) h = back_suc_false t s k (holds-past t s k (omega arith))

pub back_le : (t : ℕ → Bool) (s : List ℕ) (k : ℕ) → back t s k ≤ k
back_le t s zero = omega (arith, back_zero t s 0 (omega arith))
back_le t s (suc k) = by (decide (holds t s k)) (back_le t s k)
  where
    by : (holds t s k ≡ true) ⊎ (holds t s k ≡ false) → back t s k ≤ k → back t s (suc k) ≤ suc k
    by (inl e) i = omega (arith, back_suc_true t s k e)
    by (inr e) i = omega (arith, back_suc_false t s k e)

-- a run back sees only what stands before the place
pub back-same : (t : ℕ → Bool) (s s' : List ℕ) (k : ℕ) → ((j : ℕ) → j < k → holds t s' j ≡ holds t s j) → back t s' k ≡ back t s k
unfolding back
back-same t s s' zero same = refl
back-same t s s' (suc k) same =
    ap (λ (y : Bool). elim y as (λ z. ℕ) [ true ↦ suc (back t s' k) | false ↦ zero ]) (same k (omega arith))
    ∙ ap (λ (n : ℕ). elim (holds t s k) as (λ z. ℕ) [ true ↦ suc n | false ↦ zero ]) (back-same t s s' k (λ j h. same j (omega arith)))

pub back_prefix : (t : ℕ → Bool) (a b : List ℕ) (p : ℕ) → p ≤ length a → back t (a ++ b) p ≡ back t a p
back_prefix t a b p h = back-same t a (a ++ b) p (λ j l. holds_prefix t a b j (omega arith))

-- nor past a byte that fails
pub back_shift : (t : ℕ → Bool) (a b : List ℕ) → back t a (length a) ≡ 0 → (p : ℕ) → back t (a ++ b) (length a + p) ≡ back t b p
unfolding back
back_shift t a b z zero = rw add-zero (back_prefix t a b (length a) (omega arith) ∙ z)
back_shift t a b z (suc k) =
    rw add-suc
    (ap (λ (y : Bool). elim y as (λ x. ℕ) [ true ↦ suc (back t (a ++ b) (length a + k)) | false ↦ zero ]) (holds_shift t a b k)
    ∙ ap (λ (n : ℕ). elim (holds t b k) as (λ x. ℕ) [ true ↦ suc n | false ↦ zero ]) (back_shift t a b z k))

-- the bytes of the run pass, and the byte before it does not
pub back_run : (t : ℕ → Bool) (s : List ℕ) (k j : ℕ) → k - back t s k ≤ j → j < k → holds t s j ≡ true
back_run t s zero j h l = absurd (not-suc-le-zero l)
back_run t s (suc k) j h l = by (decide (holds t s k)) (decide (ltb j k)) (back_run t s k j)
  where
    by : (holds t s k ≡ true) ⊎ (holds t s k ≡ false) → (ltb j k ≡ true) ⊎ (ltb j k ≡ false) → (k - back t s k ≤ j → j < k → holds t s j ≡ true) → holds t s j ≡ true
    by (inl e) (inl u) i = i (omega (arith, back_suc_true t s k e)) (ltb-true j k u)
    by (inl e) (inr u) i = let z : j ≡ k = omega (arith, ltb-false j k u) in rw z e
    by (inr e) u i = absurd (omega (arith, back_suc_false t s k e))

pub back_stop : (t : ℕ → Bool) (s : List ℕ) (k j : ℕ) → suc j ≡ k - back t s k → holds t s j ≡ false
back_stop t s zero j e = absurd (omega arith)
back_stop t s (suc k) j e = by (decide (holds t s k)) (back_stop t s k j)
  where
    by : (holds t s k ≡ true) ⊎ (holds t s k ≡ false) → (suc j ≡ k - back t s k → holds t s j ≡ false) → holds t s j ≡ false
    by (inl u) i = i (omega (arith, back_suc_true t s k u))
    by (inr u) i = let z : j ≡ k = omega (arith, back_suc_false t s k u) in rw z u

-- ---- a run back is a run forward in the text's front, turned round
back_front : (t : ℕ → Bool) (s : List ℕ) (k : ℕ) → k ≤ length s → back t s k ≡ prefix_len t (reverse (take k s))
unfolding back
back_front t s zero h = refl
back_front t s (suc k) h = rw (take-suc s k 0 h, reverse-append) (by (decide (holds t s k)) (back_front t s k (omega arith)))
  where
    by : (holds t s k ≡ true) ⊎ (holds t s k ≡ false) → back t s k ≡ prefix_len t (reverse (take k s))
        → back t s (suc k) ≡ cond (t (get_or s k 0)) (1 + prefix_len t (reverse (take k s))) 0
    by (inl e) i = back_suc_true t s k e ∙ rw (sym (holds_in t s k h) ∙ e) (omega (arith, i))
    by (inr e) i = back_suc_false t s k e ∙ rw (sym (holds_in t s k h) ∙ e)

pub back_turned : (t : ℕ → Bool) (s front : List ℕ) (k r : ℕ) → front ≡ between 0 k s → k ≤ length s → r ≡ length (take (prefix_len t (reverse front)) (reverse front)) → r ≡ back t s k
back_turned t s front k r cut h e =
    e ∙ length-prefix_len t (reverse front) ∙ ap (λ (l : List ℕ). prefix_len t (reverse l)) (cut ∙ between_from_start s k) ∙ sym (back_front t s k h)

-- ---- the invariant of a loop that runs back, and its rules
pub record Backs (t : ℕ → Bool) (s : List ℕ) (pos k : ℕ) : Type 0 where
  pub below : k ≤ pos
  pub inside : pos ≤ length s
  pub same : back t s pos ≡ (pos - k) + back t s k

pub backs_first : (t : ℕ → Bool) (s : List ℕ) (pos : ℕ) → pos ≤ length s → Backs t s pos pos
backs_first t s pos h = record { below = omega arith; inside = h; same = omega arith }

-- whatever the bound is that the loop tested k by
pub backs_again : (t : ℕ → Bool) (s : List ℕ) (pos k n : ℕ) → Backs t s pos k → n < k → t (get_or s (k - 1) 0) ≡ true → Backs t s pos (k - 1)
backs_again t s pos k n w h e =
    let h : 0 < k = omega arith in
    record { below = omega (arith, w.below); inside = w.inside; same = omega (arith, w.same, w.below, back_true t s k h (omega (arith, w.below, w.inside)) e) }

pub backs_found : (t : ℕ → Bool) (s : List ℕ) (pos k n : ℕ) → Backs t s pos k → n < k → t (get_or s (k - 1) 0) ≡ false → pos - k ≡ back t s pos
backs_found t s pos k n w h e =
    let h : 0 < k = omega arith in
    omega (arith, w.same, back_false t s k h (omega (arith, w.below, w.inside)) e)

pub backs_end : (t : ℕ → Bool) (s : List ℕ) (pos k : ℕ) → Backs t s pos k → k ≤ 0 → pos ≡ back t s pos
backs_end t s pos k w h = omega (arith, w.same, w.below, back_zero t s k h)

pub backs_none : (t : ℕ → Bool) (s : List ℕ) (pos : ℕ) → length s < pos → 0 ≡ back t s pos
backs_none t s pos h = sym (back-past t s pos h)

-- where a function told of the byte
module _ (t : ℕ → Bool) (s : List ℕ) (pos k : ℕ) (y : Bool) (says : Gives (t (get_or s (k - 1) 0)) y) where
  pub backs_told_again : Backs t s pos k → 0 < k → y ≡ true → Backs t s pos (k - 1)
  backs_told_again w h e = backs_again t s pos k 0 w h (sym says.answer ∙ e)

  pub backs_told_found : Backs t s pos k → 0 < k → y ≡ false → pos - k ≡ back t s pos
  backs_told_found w h e = backs_found t s pos k 0 w h (sym says.answer ∙ e)

pub ruleset back_rules = (backs_first, backs_again, backs_found, backs_told_again, backs_told_found, backs_end, backs_none, byte_rules)

-- ---- lines
pub start_zero : (eol : ℕ) (s : List ℕ) (p : ℕ) → p ≡ 0 → true ≡ line_start eol s p
unfolding line_start
start_zero eol s p e = rw e

pub start_pos : (eol : ℕ) (s : List ℕ) (p : ℕ) → (p ≡ 0 → ⊥) → holds (is eol) s (p - 1) ≡ line_start eol s p
unfolding line_start
start_pos eol s zero h = absurd (h refl)
start_pos eol s (suc k) h = rw sub-one

pub start_told : (eol : ℕ) (s : List ℕ) (p : ℕ) (y : Bool) → (p ≡ 0 → ⊥) → Gives (holds (is eol) s (p - 1)) y → y ≡ line_start eol s p
start_told eol s p y h g = g.answer ∙ start_pos eol s p h

-- after a line end a line begins, after another byte none
pub start_next : (eol : ℕ) (s : List ℕ) (j : ℕ) → holds (is eol) s j ≡ true → line_start eol s (suc j) ≡ true
unfolding line_start
start_next eol s j e = e

pub start_not : (eol : ℕ) (s : List ℕ) (j : ℕ) → holds (is eol) s j ≡ false → line_start eol s (suc j) ≡ false
unfolding line_start
start_not eol s j e = e

-- within a line no other line begins
pub line_one : (eol : ℕ) (s : List ℕ) (a k : ℕ) → a < k → k ≤ line_end eol s a → line_start eol s k ≡ false
line_one eol s a zero h l = absurd (not-suc-le-zero h)
line_one eol s a (suc j) h l =
    start_not eol s j
    (⊎_elim (λ (u : ltb j (length s) ≡ true). holds_in (is eol) s j (ltb-true j (length s) u) ∙ find_before (is eol) s a j (omega arith) l)
    (λ u. holds-past (is eol) s j (ltb-false j (length s) u))
    (decide (ltb j (length s))))

-- after a line another begins, or the text ends
pub line-next : (eol : ℕ) (s : List ℕ) (a : ℕ) → a ≤ length s → after_line eol s a < length s → line_start eol s (after_line eol s a) ≡ true
line-next eol s a h l =
    let e = line_end eol s a in
    let m : min (e + 1) (length s) ≡ suc e = omega arith in
    rw m (start_next eol s e (holds_in (is eol) s e (omega arith) ∙ find_at (is eol) s a (omega arith)))

-- a text that a line begins after: empty, or its last byte is a line end
abbrev pub Ends : ℕ → List ℕ → Type 0
Ends eol a = line_start eol a (length a) ≡ true

pub start_prefix : (eol : ℕ) (a b : List ℕ) (p : ℕ) → p ≤ length a → line_start eol (a ++ b) p ≡ line_start eol a p
unfolding line_start
start_prefix eol a b zero h = refl
start_prefix eol a b (suc p) h = holds_prefix (is eol) a b p h

pub start_shift : (eol : ℕ) (a b : List ℕ) → Ends eol a → (p : ℕ) → line_start eol (a ++ b) (length a + p) ≡ line_start eol b p
unfolding line_start
start_shift eol a b ends zero = rw add-zero (start_prefix eol a b (length a) (omega arith) ∙ ends)
start_shift eol a b ends (suc p) = rw add-suc (holds_shift (is eol) a b p)

pub last_byte : (eol : ℕ) (a : List ℕ) → Ends eol a → 0 < length a → holds (is eol) a (length a - 1) ≡ true
last_byte eol a e h = start_pos eol a (length a) (λ z. omega arith) ∙ e

-- no run of another byte reaches past such a text's end
pub back_after : (c eol : ℕ) (a : List ℕ) → Ends eol a → (c ≡ eol → ⊥) → back (is c) a (length a) ≡ 0
back_after c eol a ends d = by (decide (ltb 0 (length a)))
  where
    by : (ltb 0 (length a) ≡ true) ⊎ (ltb 0 (length a) ≡ false) → back (is c) a (length a) ≡ 0
    by (inl u) =
        let h = ltb-true 0 (length a) u in
        let w = holds_true (is eol) a (length a - 1) (last_byte eol a ends h) in
        back_false (is c) a (length a) h (omega arith) (is_no c (get_or a (length a - 1) 0) (λ z. d (sym z ∙ is_true eol (get_or a (length a - 1) 0) w.1)))
    by (inr u) = back_zero (is c) a (length a) (ltb-false 0 (length a) u)
