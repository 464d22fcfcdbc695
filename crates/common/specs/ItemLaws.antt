-- Laws of items that lead a line: the leading bytes of a part of a text, walks back, lines, the needles of a set, and a scanner's step. Assumes nothing.
use Rattle.std.specs.Prelude.{◌≡◌, Bool, cond, ◌||◌, ◌&&◌, ◌⊎◌, eqb, ltb, get_or, take}
use Rattle.std.proofs.Math.Path.{refl, sym, ap, fun_ext}
use Rattle.std.proofs.Common.{◌∙◌, inl, inr, add-one, length-drop, length-take, drop-cons, get_or-take}
use Rattle.std.proofs.Math.Bool.{true, false, or-true}
use mathlib.Core.List.{List, [], ◌∷◌}
use Rattle.std.proofs.Math.Logic.{⊎_elim}
use Prim.Native.Nat.{ℕ, zero, suc, ◌+◌, ◌-◌, ◌≤◌, ◌<◌, min}
use native.Mathlib.Omega.{arith}
use Rattle.std.proofs.Math.ListN.{length, drop, drop_of_length-le, get_or-eq_default}
use Rattle.std.proofs.Math.Seq.{slice, slice_empty, slice-cons, length-slice}
use borrow.Author.Tests.{eqb-true, eq-eqb, lt-ltb, le-ltb, ltb-true, ltb-false}
use Rattle.search.specs.Promise.{Gives, Steps}
use Rattle.search.specs.Search.{is, one_of, other, holds, find, Sought, back, line_start, line_end, next_line, after_line}
use Rattle.search.specs.SearchLaws.{decide, clash, and_true, is_true, either_true, other_yes, other_no, other_false, holds_in, holds-past, holds_true, find_ge, find_le, find_at, find_before, find-is, find_end, find_here, find-next, back_run, back_stop, start_zero, line_one, line-next}
use Rattle.common.specs.Sets.{accepted_from, accepted, probe_of, probe}
use Rattle.common.specs.Refusals.{Outcome, refused}
use Rattle.common.specs.Turn.{Turn, go, stop, found, all_found, None, yields, step_of}
use Rattle.common.specs.Turning.{Ahead, Adv, Each, OnFound, Covers}
use Rattle.common.specs.TurnLaws.{collect-covers}
use Rattle.common.specs.Items.{ItemGrammar, blank, has, Apart, line_bytes, leading, beyond, item_from, line_found, item_at, items_of, read_turn, hit_turn, said, place_of, answer_by, state_by, step_for}

-- a property of what a test picks, by cases
pub both : {A : Type 0} (P : A → Type 0) (t : Bool) (a b : A) → (t ≡ true → P a) → (t ≡ false → P b) → P (cond t a b)
both P true a b f g = f refl
both P false a b f g = g refl

-- a function of what a test picks
pub of_cond : {A B : Type 0} (f : A → B) (t : Bool) (a b : A) → f (cond t a b) ≡ cond t (f a) (f b)
of_cond f true a b = refl
of_cond f false a b = refl

pub other_true : (t : ℕ → Bool) (x : ℕ) → other t x ≡ true → t x ≡ false
other_true t x e = ⊎_elim (λ u. absurd (clash e (other_no t x u))) (λ u. u) (decide (t x))

-- ---- the leading bytes of what a text has from i on
module _ (t : ℕ → Bool) where
  pub leading_yes : (x : ℕ) (l : List ℕ) → t x ≡ true → leading t (x ∷ l) ≡ x ∷ leading t l
  unfolding leading
  leading_yes x l e = rw (e, leading)

  pub leading_no : (x : ℕ) (l : List ℕ) → t x ≡ false → leading t (x ∷ l) ≡ []
  unfolding leading
  leading_no x l e = rw (e, leading)

  pub beyond_yes : (x : ℕ) (l : List ℕ) → t x ≡ true → beyond t (x ∷ l) ≡ beyond t l
  unfolding beyond
  beyond_yes x l e = rw (e, beyond)

  pub beyond_no : (x : ℕ) (l : List ℕ) → t x ≡ false → beyond t (x ∷ l) ≡ x ∷ l
  unfolding beyond
  beyond_no x l e = rw (e, beyond)

  module _ (u : List ℕ) where
    passed : (i : ℕ) → i < length u → t (get_or u i 0) ≡ true → find (other t) u i ≡ find (other t) u (suc i)
    passed i h e = find-next (other t) u i h (other_no t (get_or u i 0) e) ∙ ap (find (other t) u) (add-one i)

    leading-part : (n i : ℕ) → length u ≡ i + n → leading t (drop i u) ≡ slice i (find (other t) u i) u
    unfolding leading
    leading-part zero i e =
        let h : length u ≤ i = omega arith in
        ap (leading t) (drop_of_length-le u h) ∙ sym (ap (λ (k : ℕ). slice i k u) (find_end (other t) u i h) ∙ slice_empty i u)
    leading-part (suc n) i e = by (decide (t (get_or u i 0))) (leading-part n (suc i) (omega arith))
      where
        h : i < length u
        h = omega arith

        by : (t (get_or u i 0) ≡ true) ⊎ (t (get_or u i 0) ≡ false) → leading t (drop (suc i) u) ≡ slice (suc i) (find (other t) u (suc i)) u → leading t (drop i u) ≡ slice i (find (other t) u i) u
        by (inl y) ih =
            ap (leading t) (drop-cons u i 0 h)
            ∙ leading_yes (get_or u i 0) (drop (suc i) u) y
            ∙ ap (λ (l : List ℕ). get_or u i 0 ∷ l) ih
            ∙ sym (slice-cons i (find (other t) u (suc i)) u 0 (find_ge (other t) u (suc i)) (find_le (other t) u (suc i) h))
            ∙ ap (λ (k : ℕ). slice i k u) (sym (passed i h y))
        by (inr y) ih =
            ap (leading t) (drop-cons u i 0 h)
            ∙ leading_no (get_or u i 0) (drop (suc i) u) y
            ∙ sym (ap (λ (k : ℕ). slice i k u) (find_here (other t) u i h (other_yes t (get_or u i 0) y)) ∙ slice_empty i u)

    beyond-part : (n i : ℕ) → length u ≡ i + n → beyond t (drop i u) ≡ drop (find (other t) u i) u
    unfolding beyond
    beyond-part zero i e =
        let h : length u ≤ i = omega arith in
        ap (beyond t) (drop_of_length-le u h) ∙ sym (ap (λ (k : ℕ). drop k u) (find_end (other t) u i h) ∙ drop_of_length-le u h)
    beyond-part (suc n) i e = by (decide (t (get_or u i 0))) (beyond-part n (suc i) (omega arith))
      where
        h : i < length u
        h = omega arith

        by : (t (get_or u i 0) ≡ true) ⊎ (t (get_or u i 0) ≡ false) → beyond t (drop (suc i) u) ≡ drop (find (other t) u (suc i)) u → beyond t (drop i u) ≡ drop (find (other t) u i) u
        by (inl y) ih =
            ap (beyond t) (drop-cons u i 0 h) ∙ beyond_yes (get_or u i 0) (drop (suc i) u) y ∙ ih ∙ ap (λ (k : ℕ). drop k u) (sym (passed i h y))
        by (inr y) ih =
            ap (beyond t) (drop-cons u i 0 h)
            ∙ beyond_no (get_or u i 0) (drop (suc i) u) y
            ∙ sym (drop-cons u i 0 h)
            ∙ ap (λ (k : ℕ). drop k u) (sym (find_here (other t) u i h (other_yes t (get_or u i 0) y)))

    -- they stand from i up to the first byte that fails the test, and the others from there on
    pub leading-is : (i : ℕ) → i ≤ length u → leading t (drop i u) ≡ slice i (find (other t) u i) u
    leading-is i h = leading-part (length u - i) i (omega arith)

    pub beyond-is : (i : ℕ) → i ≤ length u → beyond t (drop i u) ≡ drop (find (other t) u i) u
    beyond-is i h = beyond-part (length u - i) i (omega arith)

  -- together they are all
  pub leading-beyond : (l : List ℕ) → length (leading t l) + length (beyond t l) ≡ length l
  unfolding leading beyond
  leading-beyond [] = refl
  leading-beyond (x ∷ l) = by (decide (t x)) (leading-beyond l)
    where
      by : (t x ≡ true) ⊎ (t x ≡ false) → length (leading t l) + length (beyond t l) ≡ length l → length (leading t (x ∷ l)) + length (beyond t (x ∷ l)) ≡ length (x ∷ l)
      by (inl y) ih = omega (arith, ap length (leading_yes x l y), ap length (beyond_yes x l y))
      by (inr y) ih = omega (arith, ap length (leading_no x l y), ap length (beyond_no x l y))

-- ---- one accepted byte, one separator or tab
module _ (g : ItemGrammar) where
  -- whether they stand at p in a text
  abbrev pub accepted_at : List ℕ → ℕ → Bool
  accepted_at u p = ltb (p + 1) (length u) && (g.accepts (get_or u p 0) && blank g (get_or u (p + 1) 0))

  pub from_drop : {A : Type 0} (make : ℕ → ℕ → ℕ → A) (u : List ℕ) (p : ℕ) → item_from g make p (drop p u) ≡ cond (accepted_at u p) (make (get_or u p 0) (p + 2) (length u) ∷ []) []
  from_drop make u p = by (decide (ltb (p + 1) (length u))) (decide (ltb p (length u)))
    where
      by : (ltb (p + 1) (length u) ≡ true) ⊎ (ltb (p + 1) (length u) ≡ false) → (ltb p (length u) ≡ true) ⊎ (ltb p (length u) ≡ false)
          → item_from g make p (drop p u) ≡ cond (accepted_at u p) (make (get_or u p 0) (p + 2) (length u) ∷ []) []
      by (inl x) y =
          let l = ltb-true (p + 1) (length u) x in
          let e : p + 2 + length (drop (suc (p + 1)) u) ≡ length u = omega (arith, length-drop (suc (p + 1)) u) in
          let n : suc p ≡ p + 1 = omega arith in
          ap (item_from g make p) (drop-cons u p 0 (omega arith) ∙ ap (λ (l : List ℕ). get_or u p 0 ∷ l) (drop-cons u (suc p) 0 (omega arith))) ∙ simp (x, e, n)
      by (inr x) (inl y) =
          let l = ltb-false (p + 1) (length u) x in
          let z : drop (suc p) u ≡ [] = drop_of_length-le u {i = suc p} (omega arith) in
          ap (item_from g make p) (drop-cons u p 0 (ltb-true p (length u) y) ∙ ap (λ (l : List ℕ). get_or u p 0 ∷ l) z) ∙ simp x
      by (inr x) (inr y) =
          let z : drop p u ≡ [] = drop_of_length-le u (ltb-false p (length u) y) in
          ap (item_from g make p) z ∙ simp x

  -- as the tests of the two bytes tell it
  pub marked_tests : (u : List ℕ) (p m : ℕ) (y z : Bool) → Gives (get_or u p 0) m → Gives (g.accepts m) y → Gives (holds (blank g) u (p + 1)) z → accepted_at u p ≡ (z && y)
  unfolding holds
  marked_tests u p m y z b a k = rw (k.answer, a.answer, b.answer) (by (ltb (p + 1) (length u)) (g.accepts (get_or u p 0)) (blank g (get_or u (p + 1) 0)))
    where
      by : (x i j : Bool) → (x && (i && j)) ≡ ((x && j) && i)
      by true true true = refl
      by true true false = refl
      by true false true = refl
      by true false false = refl
      by false i j = refl

  -- what that says of the text s of which u is a front of e bytes
  pub record Parted (s : List ℕ) (e p : ℕ) : Type 0 where
    pub inside : p + 1 < e
    pub accepted : g.accepts (get_or s p 0) ≡ true
    pub parted : blank g (get_or s (p + 1) 0) ≡ true

  pub marked_parted : (s : List ℕ) (e p : ℕ) → length (take e s) ≡ e → accepted_at (take e s) p ≡ true → Parted s e p
  marked_parted s e p size y =
      let v = and_true (ltb (p + 1) (length (take e s))) (g.accepts (get_or (take e s) p 0) && blank g (get_or (take e s) (p + 1) 0)) y in
      let w = and_true (g.accepts (get_or (take e s) p 0)) (blank g (get_or (take e s) (p + 1) 0)) v.1 in
      let m : p + 1 < e = omega (arith, ltb-true (p + 1) (length (take e s)) v.0) in
      record {
        inside = m;
        accepted = sym (ap g.accepts (get_or-take e s p 0 (omega arith))) ∙ w.0;
        parted = sym (ap (blank g) (get_or-take e s (p + 1) 0 m)) ∙ w.1;
      }

  pub parted_marked : (s : List ℕ) (e p : ℕ) → length (take e s) ≡ e → Parted s e p → accepted_at (take e s) p ≡ true
  parted_marked s e p size w =
      let m = w.inside in
      let x : get_or (take e s) p 0 ≡ get_or s p 0 = get_or-take e s p 0 (omega arith) in
      let y : get_or (take e s) (p + 1) 0 ≡ get_or s (p + 1) 0 = get_or-take e s (p + 1) 0 m in
      rw (lt-ltb (p + 1) (length (take e s)) (omega arith), x, y, w.accepted, w.parted)

-- ---- the byte that heads an item: x stands in the text two before the content's start
pub record Heads (s : List ℕ) (x start : ℕ) : Type 0 where
  pub low : 2 ≤ start
  pub high : start ≤ length s
  pub same : get_or s (start - 2) 0 ≡ x

pub heads_at : (s : List ℕ) (p : ℕ) → p + 1 < length s → Heads s (get_or s p 0) (p + 2)
heads_at s p h = record { low = omega arith; high = omega arith; same = let e : p + 2 - 2 ≡ p = omega arith in rw e }

-- the one that a front of e bytes of the text accepts
pub heads_front : (g : ItemGrammar) (s : List ℕ) (e p : ℕ) → length (take e s) ≡ e → accepted_at g (take e s) p ≡ true → Heads s (get_or (take e s) p 0) (p + 2)
heads_front g s e p size y =
    let m = (marked_parted g s e p size y).inside in
    let z : p + 1 < length s = omega (arith, length-take e s) in
    rw (get_or-take e s p 0 (omega arith)) (heads_at s p z)

-- ---- a walk back from k to b: all bytes between pass a test, and the byte before them fails it
pub record Walked (t : ℕ → Bool) (s : List ℕ) (k b : ℕ) : Type 0 where
  pub low : b ≤ k
  pub all : (j : ℕ) → b ≤ j → j < k → t (get_or s j 0) ≡ true
  pub last : (j : ℕ) → suc j ≡ b → t (get_or s j 0) ≡ false

pub walked : (t : ℕ → Bool) (s : List ℕ) (k : ℕ) → k ≤ length s → Walked t s k (k - back t s k)
walked t s k h = record {
  low = omega arith;
  all = λ j a l. (holds_true t s j (back_run t s k j a l)).1;
  last = λ j e. sym (holds_in t s j (omega arith)) ∙ back_stop t s k j e;
}

-- two walks of one test from one place end at one place
pub walked_is : (t : ℕ → Bool) (s : List ℕ) (k b c : ℕ) → Walked t s k b → Walked t s k c → b ≡ c
walked_is t s k b c v w = by (decide (ltb b c)) (decide (ltb c b))
  where
    by : (ltb b c ≡ true) ⊎ (ltb b c ≡ false) → (ltb c b ≡ true) ⊎ (ltb c b ≡ false) → b ≡ c
    by (inl x) y =
        let l = ltb-true b c x in
        let m : suc (c - 1) ≡ c = omega arith in
        absurd (clash (v.all (c - 1) (omega arith) (omega (arith, w.low))) (w.last (c - 1) m))
    by (inr x) (inl y) =
        let l = ltb-true c b y in
        let m : suc (b - 1) ≡ b = omega arith in
        absurd (clash (w.all (b - 1) (omega arith) (omega (arith, v.low))) (v.last (b - 1) m))
    by (inr x) (inr y) = omega (arith, ltb-false b c x, ltb-false c b y)

-- ---- lines
-- the byte before a line's start is a line end
pub start_after : (eol : ℕ) (s : List ℕ) (a j : ℕ) → line_start eol s a ≡ true → suc j ≡ a → get_or s j 0 ≡ eol
unfolding line_start
start_after eol s zero j e q = absurd (omega arith)
start_after eol s (suc i) j e q =
    let z : j ≡ i = omega arith in
    rw z (is_true eol (get_or s i 0) (holds_true (is eol) s i e).1)

-- ---- what the tests of a line tell
pub holds-told : (t : ℕ → Bool) (s : List ℕ) (k : ℕ) (y : Bool) → k < length s → Gives (t (get_or s k 0)) y → y ≡ holds t s k
holds-told t s k y h g = g.answer ∙ sym (holds_in t s k h)

pub holds_out : (t : ℕ → Bool) (s : List ℕ) (k : ℕ) → length s ≤ k → ltb k (length s) ≡ holds t s k
holds_out t s k h = le-ltb k (length s) h ∙ sym (holds-past t s k h)

-- a place where a line begins, or the text's end
abbrev pub AtLine : ℕ → List ℕ → ℕ → Type 0
AtLine eol s q = q < length s → line_start eol s q ≡ true

pub at_start : (eol : ℕ) (s : List ℕ) → AtLine eol s 0
at_start eol s l = sym (start_zero eol s 0 refl)

-- the text up to the end of the line that a place is in
pub line_size : (eol : ℕ) (s : List ℕ) (q e : ℕ) → Sought (is eol) s q e → q < length s → e ≡ length (take e s)
line_size eol s q e w h = let z : min e (length s) ≡ e = omega (arith, w.high) in sym (length-take e s ∙ z)

pub line_reach : (eol : ℕ) (s : List ℕ) (q e : ℕ) → Sought (is eol) s q e → q < length s → q ≤ length (take e s)
line_reach eol s q e w h = omega (arith, line_size eol s q e w h, w.low)

pub line-length : (eol : ℕ) (s : List ℕ) (a : ℕ) → a ≤ length s → length (take (line_end eol s a) s) ≡ line_end eol s a
line-length eol s a h = let z : min (line_end eol s a) (length s) ≡ line_end eol s a = omega (arith, find_le (is eol) s a h) in length-take (line_end eol s a) s ∙ z

pub line_low : (eol : ℕ) (s : List ℕ) (a : ℕ) → a ≤ length s → a ≤ length (take (line_end eol s a) s)
line_low eol s a h = omega (arith, line-length eol s a h, find_ge (is eol) s a)

-- ---- the first byte of a line that is no separator or tab
-- a line begins at a, and p is that byte
pub record Led (g : ItemGrammar) (s : List ℕ) (a p : ℕ) : Type 0 where
  pub begins : line_start g.eol s a ≡ true
  pub low : a ≤ p
  pub blanks : (j : ℕ) → a ≤ j → j < p → blank g (get_or s j 0) ≡ true
  pub solid : blank g (get_or s p 0) ≡ false

-- it is what a search up to the line's end finds
module _ (g : ItemGrammar) (s : List ℕ) (a : ℕ) (h : a ≤ length s) (p : ℕ) (l : p < line_end g.eol s a) where
  -- the text up to that end
  abbrev up_to_end : List ℕ
  up_to_end = take (line_end g.eol s a) s

  pub led : line_start g.eol s a ≡ true → find (other (blank g)) up_to_end a ≡ p → Led g s a p
  led b f = record {
    begins = b;
    low = omega (arith, find_ge (other (blank g)) up_to_end a);
    blanks = λ j i m. sym (ap (blank g) (get_or-take (line_end g.eol s a) s j 0 (omega arith))) ∙ other_false (blank g) (get_or up_to_end j 0) (find_before (other (blank g)) up_to_end a j i (omega arith));
    solid =
        sym (ap (blank g) (get_or-take (line_end g.eol s a) s p 0 l))
        ∙ other_true (blank g) (get_or up_to_end p 0) (rw f at (find_at (other (blank g)) up_to_end a (omega (arith, line-length g.eol s a h))));
  }

  pub led_find : Led g s a p → find (other (blank g)) up_to_end a ≡ p
  led_find w =
      find-is (other (blank g)) up_to_end a p w.low (omega (arith, line-length g.eol s a h))
      (λ j i m. ap (other (blank g)) (get_or-take (line_end g.eol s a) s j 0 (omega arith)) ∙ other_no (blank g) (get_or s j 0) (w.blanks j i m))
      (ap (other (blank g)) (get_or-take (line_end g.eol s a) s p 0 l) ∙ other_yes (blank g) (get_or s p 0) w.solid)

-- ---- the items of lines, where a line has one or none
module _ {A : Type 0} where
  -- a list of one thing, which has P, or of none
  abbrev pub AtMost : (A → Type 0) → List A → Type 0
  AtMost P [] = Unit {0}
  AtMost P (x ∷ []) = P x
  AtMost P (x ∷ y ∷ l) = ⊥

  pub most_from : (g : ItemGrammar) (make : ℕ → ℕ → ℕ → A) (P : A → Type 0) (k : ℕ) (l : List ℕ) → ((x m : ℕ) → k + 2 ≤ m → m ≡ k + length l → P (make x (k + 2) m)) → AtMost P (item_from g make k l)
  most_from g make P k [] f = tt
  most_from g make P k (x ∷ []) f = tt
  most_from g make P k (x ∷ y ∷ rest) f = both (AtMost P) (g.accepts x && blank g y) _ _ (λ e. f x (k + 2 + length rest) (omega arith) (omega arith)) (λ e. tt)

module _ {A : Type 0} (g : ItemGrammar) (line : ℕ → List ℕ → List A) (s : List ℕ) where
  pub no_line : (a : ℕ) → line_start g.eol s a ≡ false → item_at g line s a ≡ []
  unfolding item_at
  no_line a e = simp e

  pub on_line : (a : ℕ) → line_start g.eol s a ≡ true → item_at g line s a ≡ line a (line_bytes g s a)
  unfolding item_at
  on_line a e = simp e

  -- the turn at q: past the text, and with the item of the line that begins there
  pub read_none : (q : ℕ) → length s ≤ q → Gives (read_turn g line s q) (stop q)
  unfolding read_turn
  read_none q h = record { answer = simp (le-ltb q (length s) h) }

  pub read-line : (q e n : ℕ) (l : List A) → q < length s → Sought (is g.eol) s q e → line q (slice q e s) ≡ l → Gives (next_line (length s) e) n → read_turn g line s q ≡ line_found l n
  unfolding read_turn
  read-line q e n l h w f m = simp (lt-ltb q (length s) h, ← w.here, f, ← m.answer)

  -- what it finds has what the line's item has
  pub read_finds : (P : A → Type 0) (q : ℕ) → (q < length s → Each P (line q (line_bytes g s q))) → OnFound P (read_turn g line s q)
  unfolding read_turn
  read_finds P q f = both (OnFound P) (ltb q (length s)) _ _ (λ u. by (line q (line_bytes g s q)) (f (ltb-true q (length s) u))) (λ u. tt)
    where
      by : (l : List A) → Each P l → OnFound P (line_found l (after_line g.eol s q))
      by [] w = tt
      by (x ∷ l) w = w.0

  -- the rest of a line has nothing
  pub line-rest : (a k : ℕ) → a ≤ length s → a ≤ k → None (item_at g line s) (suc k) (after_line g.eol s a)
  line-rest a k h m b l u = no_line b (line_one g.eol s a b (omega arith) (omega arith))

  -- where `Lies q n i` is what holds of an item i found between q and n
  module _ (Lies : ℕ → ℕ → A → Type 0) (most : (q e n : ℕ) (l : List ℕ) → q + length l ≡ e → e ≤ n → AtMost (Lies q n) (line q l)) where
    bytes_size : (q : ℕ) → q ≤ length s → q + length (line_bytes g s q) ≡ line_end g.eol s q
    bytes_size q h = omega (arith, find_ge (is g.eol) s q, length-slice q (line_end g.eol s q) s (find_le (is g.eol) s q h))

    pub read_adv : Adv Lies (read_turn g line s) (length s)
    unfolding read_turn
    read_adv = record {
      ahead = λ q h.
          both (Ahead Lies q (length s)) (ltb q (length s)) _ _
          (λ u. by q h (ltb-true q (length s) u) (line q (line_bytes g s q)) (most q (line_end g.eol s q) (after_line g.eol s q) (line_bytes g s q) (bytes_size q h) (omega (arith, find_le (is g.eol) s q h)))) (λ u. (omega arith, h));
    }
      where
        by : (q : ℕ) → q ≤ length s → q < length s → (l : List A) → AtMost (Lies q (after_line g.eol s q)) l → Ahead Lies q (length s) (line_found l (after_line g.eol s q))
        by q h m [] w = (omega (arith, find_ge (is g.eol) s q), omega arith)
        by q h m (x ∷ []) w = (omega (arith, find_ge (is g.eol) s q), omega arith, w)
        by q h m (x ∷ y ∷ l) w = absurd w

    -- a line scan answers for the places that it passes
    pub read-covers : (q : ℕ) → q ≤ length s → AtLine g.eol s q → Covers (item_at g line s) (AtLine g.eol s) (length s) q (read_turn g line s q)
    unfolding read_turn
    read-covers q h i =
        both (Covers (item_at g line s) (AtLine g.eol s) (length s) q) (ltb q (length s)) _ _
        (λ u.
        let l = ltb-true q (length s) u in
        by l (line q (line_bytes g s q)) (on_line q (i l)) (most q (line_end g.eol s q) (line_end g.eol s q) (line_bytes g s q) (bytes_size q h) (omega arith)))
        (λ u. λ k x y. absurd (omega (arith, ltb-false q (length s) u)))
      where
        n : ℕ
        n = after_line g.eol s q

        a : q ≤ line_end g.eol s q
        a = find_ge (is g.eol) s q

        rest : None (item_at g line s) (suc q) n
        rest = line-rest q q h (omega arith)

        by : q < length s → (l : List A) → item_at g line s q ≡ l → AtMost (Lies q (line_end g.eol s q)) l → Covers (item_at g line s) (AtLine g.eol s) (length s) q (line_found l n)
        by m [] e w = (
          omega (arith, a),
          omega arith,
          line-next g.eol s q h,
          λ k x y. ⊎_elim (λ (u : ltb q k ≡ true). rest k (ltb-true q k u) y) (λ u. let z : k ≡ q = omega (arith, ltb-false q k u) in ap (item_at g line s) z ∙ e) (decide (ltb q k)),
        )
        by m (x ∷ []) e w = (omega arith, line-next g.eol s q h, q, omega arith, omega (arith, a), e, (λ k y z. absurd (omega arith)), rest)
        by m (x ∷ y ∷ l) e w = absurd w

    -- from the text's start it finds all items
    pub read-items : all_found (read_turn g line s) (length s) 0 ≡ items_of g line s
    unfolding items_of
    read-items = collect-covers (read_turn g line s) (item_at g line s) (AtLine g.eol s) (length s) read-covers (suc (length s)) 0 (omega arith) (omega arith) (at_start g.eol s)

-- ---- a streaming scan, by what each hit makes
module _ {A : Type 0} (g : ItemGrammar) (hit : ℕ → Turn A) (s : List ℕ) where
  pub hit_adv : (Lies : ℕ → ℕ → A → Type 0) → ((q p : ℕ) → q ≤ p → p < length s → Ahead Lies q (length s) (hit p)) → Adv Lies (hit_turn g hit s) (length s)
  hit_adv Lies ahead = record {
    ahead = λ q h.
        both (Ahead Lies q (length s)) (ltb (find g.accepts s q) (length s)) _ _
        (λ u. ahead q (find g.accepts s q) (find_ge g.accepts s q) (ltb-true (find g.accepts s q) (length s) u)) (λ u. (omega arith, h));
  }

  -- it finds what its hits find
  pub hit_finds : (P : A → Type 0) (q : ℕ) → ((p : ℕ) → g.accepts (get_or s p 0) ≡ true → OnFound P (hit p)) → OnFound P (hit_turn g hit s q)
  hit_finds P q f =
      let p = find g.accepts s q in
      both (OnFound P) (ltb p (length s)) _ _ (λ u. f p (find_at g.accepts s q (ltb-true p (length s) u))) (λ u. tt)

  -- it answers for the places that it passes, if each hit does, and none is left where there is no hit
  pub hit_covers : (at : ℕ → List A) (Inv : ℕ → Type 0)
      → ((q p : ℕ) → q ≤ p → p < length s → find g.accepts s q ≡ p → Inv q → g.accepts (get_or s p 0) ≡ true → Covers at Inv (length s) q (hit p))
      → ((q : ℕ) → length s ≤ find g.accepts s q → None at q (length s)) → (q : ℕ) → q ≤ length s → Inv q → Covers at Inv (length s) q (hit_turn g hit s q)
  hit_covers at Inv hits none q h i =
      let p = find g.accepts s q in
      both (Covers at Inv (length s) q) (ltb p (length s)) _ _
      (λ u. let l = ltb-true p (length s) u in hits q p (find_ge g.accepts s q) l refl i (find_at g.accepts s q l)) (λ u. none q (ltb-false p (length s) u))

-- ---- bytes that are apart
module _ (g : ItemGrammar) (apart : Apart g) where
  pub blank-refused : (x : ℕ) → blank g x ≡ true → g.accepts x ≡ false
  blank-refused x e = ⊎_elim (λ u. ap g.accepts u ∙ apart.not_sep) (λ u. ap g.accepts u ∙ apart.not_tab) (either_true g.sep g.tab x e)

  pub accepted-blank : (x : ℕ) → g.accepts x ≡ true → blank g x ≡ false
  accepted-blank x e = ⊎_elim (λ u. absurd (clash e (blank-refused x u))) (λ u. u) (decide (blank g x))

  pub blank-inside : (x : ℕ) → blank g x ≡ true → x ≡ g.eol → ⊥
  blank-inside x e f = ⊎_elim (λ u. apart.eol_sep (sym f ∙ u)) (λ u. apart.eol_tab (sym f ∙ u)) (either_true g.sep g.tab x e)

  pub accepted-inside : (x : ℕ) → g.accepts x ≡ true → x ≡ g.eol → ⊥
  accepted-inside x e f = clash e (ap g.accepts f ∙ apart.not_eol)

  -- a walk back over separators and tabs ends where the line begins
  pub led_walked : (s : List ℕ) (a p : ℕ) → Led g s a p → Walked (blank g) s p a
  led_walked s a p w = record {
    low = w.low;
    all = w.blanks;
    last = λ j e. ⊎_elim (λ u. absurd (blank-inside (get_or s j 0) u (start_after g.eol s a j w.begins e))) (λ u. u) (decide (blank g (get_or s j 0)));
  }

-- ---- the needles of a set
or_cases : (a b : Bool) → (a || b) ≡ true → (a ≡ true) ⊎ (b ≡ true)
or_cases true b e = inl refl
or_cases false b e = inr e

module _ (set : List Bool) where
  one_has : (n b x : ℕ) → one_of (accepted_from set n b) x ≡ true → has set x ≡ true
  unfolding accepted_from one_of
  one_has zero b x e = absurd (clash e refl)
  one_has (suc n) b x e = by (decide (has set b)) (one_has n (suc b) x)
    where
      by : (has set b ≡ true) ⊎ (has set b ≡ false) → (one_of (accepted_from set n (suc b)) x ≡ true → has set x ≡ true) → has set x ≡ true
      by (inl u) ih = ⊎_elim (λ v. ap (has set) (eqb-true x b v) ∙ u) ih (or_cases (eqb x b) (one_of (accepted_from set n (suc b)) x) (rw (u, accepted_from) at e))
      by (inr u) ih = ih (rw (u, accepted_from) at e)

  has_one : (n b x : ℕ) → b ≤ x → x < b + n → has set x ≡ true → one_of (accepted_from set n b) x ≡ true
  unfolding accepted_from one_of
  has_one zero b x h l e = absurd (omega arith)
  has_one (suc n) b x h l e = by (decide (has set b)) (decide (ltb b x)) (has_one n (suc b) x)
    where
      by : (has set b ≡ true) ⊎ (has set b ≡ false) → (ltb b x ≡ true) ⊎ (ltb b x ≡ false) → (b < x → x < suc b + n → has set x ≡ true → one_of (accepted_from set n (suc b)) x ≡ true)
          → one_of (accepted_from set (suc n) b) x ≡ true
      by (inl u) (inl v) ih = rw (u, accepted_from, ih (ltb-true b x v) (omega arith) e) (or-true (eqb x b))
      by (inl u) (inr v) ih = let z : x ≡ b = omega (arith, ltb-false b x v) in rw (u, accepted_from, eq-eqb x b z)
      by (inr u) (inl v) ih = rw (u, accepted_from) (ih (ltb-true b x v) (omega arith) e)
      by (inr u) (inr v) ih = let z : x ≡ b = omega (arith, ltb-false b x v) in absurd (clash e (ap (has set) z ∙ u))

  -- the accepted bytes are those that the set accepts
  pub accepted_one : length set ≤ 256 → (x : ℕ) → one_of (accepted set) x ≡ has set x
  accepted_one h x = by (decide (has set x)) (decide (one_of (accepted set) x))
    where
      inside : has set x ≡ true → (ltb x (length set) ≡ true) ⊎ (ltb x (length set) ≡ false) → x < length set
      inside e (inl u) = ltb-true x (length set) u
      inside e (inr u) = absurd (clash e (get_or-eq_default set false {n = x} (ltb-false x (length set) u)))

      by : (has set x ≡ true) ⊎ (has set x ≡ false) → (one_of (accepted set) x ≡ true) ⊎ (one_of (accepted set) x ≡ false) → one_of (accepted set) x ≡ has set x
      by (inl u) v = let l = inside u (decide (ltb x (length set))) in has_one 256 0 x (omega arith) (omega arith) u ∙ sym u
      by (inr u) (inl v) = absurd (clash (one_has 256 0 x v) u)
      by (inr u) (inr v) = v ∙ sym u

probe-all : (l : List ℕ) → length l ≤ 3 → take (probe_of l).nn (probe_of l).needles ≡ l
probe-all [] h = refl
probe-all (a ∷ []) h = refl
probe-all (a ∷ b ∷ []) h = refl
probe-all (a ∷ b ∷ c ∷ []) h = refl
probe-all (a ∷ b ∷ c ∷ d ∷ l) h = absurd (omega arith)

-- a probe's needles, where they stream, accept what the set accepts
pub needle_set : (set : List Bool) → length set ≤ 256 → length (accepted set) ≤ 3 → one_of (take (probe set).nn (probe set).needles) ≡ has set
needle_set set h l = fun_ext (λ x. ap (λ (k : List ℕ). one_of k x) (probe-all (accepted set) l) ∙ accepted_one set h x)

-- ---- a scanner's step
module _ {A S : Type 0} (values : A → List ℕ) (at : S → ℕ → S) (g : S) (s : List ℕ) (p : ℕ) (t : Turn A) where
  pub step_long : 4294967295 < length s → Steps (answer_by values s p t) (state_by at g s p t) (refused 1) g
  step_long h = record { answer = simp (lt-ltb 4294967295 (length s) h); next = simp (lt-ltb 4294967295 (length s) h) }

  pub step_past : length s < p → length s ≤ 4294967295 → Steps (answer_by values s p t) (state_by at g s p t) (refused 2) g
  step_past l h = record {
    answer = simp (le-ltb 4294967295 (length s) h, lt-ltb (length s) p l);
    next = simp (le-ltb 4294967295 (length s) h, lt-ltb (length s) p l);
  }

  module _ (l : p ≤ length s) (h : length s ≤ 4294967295) where
    served-answer : said values t ≡ answer_by values s p t
    served-answer = sym (simp (le-ltb 4294967295 (length s) h, le-ltb (length s) p l))

    served-state : at g (place_of t) ≡ state_by at g s p t
    served-state = sym (simp (le-ltb 4294967295 (length s) h, le-ltb (length s) p l))

    -- what a step that is served says, and where its state goes
    pub step_served : {o : Outcome} {r : S} → Steps (answer_by values s p t) (state_by at g s p t) o r → (o ≡ said values t) × (r ≡ at g (place_of t))
    step_served w = (w.answer ∙ sym served-answer, w.next ∙ sym served-state)

    -- by what a `match` told of the code's value d of the scan's answer; `view` says which answer such a value stands for
    pub step_seen : {D : Type 0} (view : D → Turn A) (d e : D) (o : Outcome) (r : S) → d ≡ e → Gives t (view d) → o ≡ said values (view e) → Gives (at g (place_of (view e))) r
        → Steps (answer_by values s p t) (state_by at g s p t) o r
    step_seen view d e o r f w u v =
        let x : view e ≡ t = sym (ap view f) ∙ w.answer in
        record { answer = u ∙ ap (said values) x ∙ served-answer; next = v.answer ∙ ap (λ (y : Turn A). at g (place_of y)) x ∙ served-state }

-- the step that it makes, by what it says and the state after it; `back` is the thing of such values
module _ {A S : Type 0} (values : A → List ℕ) (back : List ℕ → A) (reads : (a : A) (n : S) → step_for back (values a) n ≡ yields a n) where
  said_step : (at : ℕ → S) (t : Turn A) → step_for back (said values t).values (at (place_of t)) ≡ step_of at t
  said_step at (go n) = refl
  said_step at (stop v) = refl
  said_step at (found a n) = reads a (at n)

  pub step_taken : (at : S → ℕ → S) (g : S) (s : List ℕ) (p : ℕ) (t : Turn A) → p ≤ length s → length s ≤ 4294967295 → (o : Outcome) (n : S) → Steps (answer_by values s p t) (state_by at g s p t) o n
      → step_for back o.values n ≡ step_of (at g) t
  step_taken at g s p t l h o n w =
      let v = step_served values at g s p t l h w in
      ap (λ (o : Outcome). step_for back o.values n) v.0 ∙ ap (step_for back (said values t).values) v.1 ∙ said_step (at g) t
