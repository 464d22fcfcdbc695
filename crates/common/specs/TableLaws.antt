-- Laws of tables of 256 entries: how a loop fills one, and the tables of byte sets. Assumes nothing.
use Rattle.std.specs.Prelude.{◌≡◌, Bool, true, false, ◌||◌, ◌&&◌, ◌⊎◌, eqb, ltb, length, get_or, set, replicate}
use Rattle.std.proofs.Math.Path.{refl, sym, ap, fun_ext}
use Rattle.std.proofs.Common.{◌∙◌, inl, inr, ⊎_elim, not-suc-le-zero, add-zero, add-suc, suc-add, arith, length-set, length-append, ext_get_or, get_or-set_same, get_or-set_other, take-suc, take_all, eq-eqb, ne_eqb, eqb-true, lt-ltb, le-ltb, ltb-true, ltb-false, le-leb}
use Rattle.std.proofs.Math.Bool.{or-true, or-false}
use mathlib.Core.List.{List, [], ◌∷◌, ◌++◌}
use Prim.Native.Nat.{ℕ, zero, suc, ◌+◌, ◌-◌, ◌≤◌, ◌<◌}
use Rattle.std.proofs.Math.Nat.{zero-add}
use Rattle.std.proofs.Math.Numerals.{add-one}
use Rattle.std.proofs.Math.ListN.{take}
use Rattle.std.proofs.lemmas.List.{length-replicate, get_or-replicate}
use Rattle.std.proofs.lemmas.Bool.{eqb-false, lt-leb}
use Rattle.search.specs.Promise.{Gives}
use Rattle.search.specs.Search.{one_of}
use Rattle.search.specs.SearchLaws.{decide, one_append}
use Rattle.common.specs.Rules.{tabulate, entry, on_byte}
use Rattle.common.specs.Sets.{Index, set_of, class_of, class_set, accepted_from, accepted, padded, probe}

-- ---- the table of a function
module _ {B : Type 0} where
  pub length-tabulate : (f : ℕ → B) (n a : ℕ) → length (tabulate f n a) ≡ n
  unfolding tabulate
  length-tabulate f zero a = refl
  length-tabulate f (suc n) a = ap suc (length-tabulate f n (suc a))

  pub tabulate-at : (f : ℕ → B) (n a k : ℕ) (d : B) → k < n → get_or (tabulate f n a) k d ≡ f (a + k)
  unfolding tabulate
  tabulate-at f zero a k d h = absurd (not-suc-le-zero h)
  tabulate-at f (suc n) a zero d h = ap f (sym (add-zero a))
  tabulate-at f (suc n) a (suc k) d h = tabulate-at f n (suc a) k d (omega arith) ∙ ap f (suc-add a k ∙ sym (add-suc a k))

  tabulate-past : (f : ℕ → B) (n a k : ℕ) (d : B) → n ≤ k → get_or (tabulate f n a) k d ≡ d
  unfolding tabulate
  tabulate-past f zero a k d h = refl
  tabulate-past f (suc n) a zero d h = absurd (not-suc-le-zero h)
  tabulate-past f (suc n) a (suc k) d h = tabulate-past f n (suc a) k d (omega arith)

  -- the entries of a function's table over the bytes are its values on bytes
  pub table_entry : (d : B) (f : ℕ → B) → entry d (tabulate f 256 0) ≡ on_byte d f
  table_entry d f = fun_ext (λ b. by b (decide (ltb b 256)))
    where
      by : (b : ℕ) → (ltb b 256 ≡ true) ⊎ (ltb b 256 ≡ false) → get_or (tabulate f 256 0) b d ≡ on_byte d f b
      by b (inl u) = tabulate-at f 256 0 b d (ltb-true b 256 u) ∙ ap f (zero-add b) ∙ sym (rw u)
      by b (inr u) = tabulate-past f 256 0 b d (ltb-false b 256 u) ∙ sym (rw u)

  -- a list of 256 entries that holds the values of f
  pub record Table (d : B) (l : List B) (f : ℕ → B) : Type 0 where
    pub long : length l ≡ 256
    pub at : (k : ℕ) → k < 256 → get_or l k d ≡ f k

  pub table_is : (d : B) (l : List B) (f : ℕ → B) → Table d l f → l ≡ tabulate f 256 0
  table_is d l f w =
      ext_get_or d l (tabulate f 256 0) (w.long ∙ sym (length-tabulate f 256 0))
      (λ k h. let i : k < 256 = omega (arith, w.long) in w.at k i ∙ ap f (sym (zero-add k)) ∙ sym (tabulate-at f 256 0 k d i))

  pub table_same : (d : B) (l : List B) (f f' : ℕ → B) → ((k : ℕ) → k < 256 → f' k ≡ f k) → Table d l f → Table d l f'
  table_same d l f f' same w = record { long = w.long; at = λ k h. w.at k h ∙ sym (same k h) }

  pub table_of : (d : B) (f : ℕ → B) → Table d (tabulate f 256 0) f
  table_of d f = record { long = length-tabulate f 256 0; at = λ k h. tabulate-at f 256 0 k d h ∙ ap f (zero-add k) }

  -- one entry is stored
  pub table_set : (d : B) (l : List B) (f f' : ℕ → B) (x : ℕ) (v : B) → x < 256 → f' x ≡ v → ((k : ℕ) → (k ≡ x → ⊥) → f' k ≡ f k) → Table d l f → Table d (set l x v) f'
  table_set d l f f' x v h e same w = record { long = length-set l x v ∙ w.long; at = at' }
    where
      at' : (k : ℕ) → k < 256 → get_or (set l x v) k d ≡ f' k
      at' k i =
          ⊎_elim (λ (u : eqb k x ≡ true). let z = eqb-true k x u in rw z (get_or-set_same l x v d (omega (arith, w.long)) ∙ sym e))
          (λ u. let z = eqb-false k x u in get_or-set_other l x k v d z ∙ w.at k i ∙ sym (same k z)) (decide (eqb k x))

  pub table_start : (d : B) (f : ℕ → B) → ((k : ℕ) → f k ≡ d) → Table d (replicate 256 d) f
  table_start d f e = record { long = length-replicate 256 d; at = λ k h. get_or-replicate 256 k d d h ∙ sym (e k) }

-- ---- a set that gains the accepted bytes: the first i of them
pub record Gained (all : List ℕ) (l : List Bool) (i : ℕ) : Type 0 where
  pub entries : Table false l (one_of (take i all))

pub gained-first : (all : List ℕ) → Gained all (replicate 256 false) 0
unfolding one_of
gained-first all = record { entries = table_start false (one_of (take 0 all)) (λ k. refl) }

module _ (all : List ℕ) (l : List Bool) (i : ℕ) (h : i < length all) where
  more : (k : ℕ) → one_of (take (i + 1) all) k ≡ (one_of (take i all) k || eqb k (get_or all i 0))
  unfolding one_of
  more k =
      let e : take (i + 1) all ≡ take i all ++ (get_or all i 0 ∷ []) = rw add-one (take-suc all i 0 h) in
      ap (λ (z : List ℕ). one_of z k) e ∙ one_append (take i all) (get_or all i 0 ∷ []) k ∙ ap (λ (t : Bool). one_of (take i all) k || t) (or-false (eqb k (get_or all i 0)))

  pub gained_again : (x : ℕ) → Index (get_or all i 0) x → Gained all l i → Gained all (set l x true) (i + 1)
  gained_again x d w = rw d.same (record {
    entries =
        table_set false l (one_of (take i all)) (one_of (take (i + 1) all)) (get_or all i 0) true (omega (arith, d.same, d.below))
        (more (get_or all i 0) ∙ rw (eq-eqb (get_or all i 0) (get_or all i 0) refl) (or-true (one_of (take i all) (get_or all i 0))))
        (λ k e. more k ∙ rw (ne_eqb k (get_or all i 0) e) (or-false (one_of (take i all) k))) w.entries;
  })

pub gained-all : (all : List ℕ) (l : List Bool) (i : ℕ) → length all ≤ i → Gained all l i → l ≡ set_of all
gained-all all l i h w = table_is false l (one_of all) (table_same false l (one_of (take i all)) (one_of all) (λ k m. rw (take_all i all h)) w.entries)

-- ---- a set of a class: the first b entries are set
unfoldable pub class_below : ℕ → ℕ → ℕ → Bool
class_below class b k = ltb k b && eqb (class_of k) class

pub record Classed (class : ℕ) (l : List Bool) (b : ℕ) : Type 0 where
  pub entries : Table false l (class_below class b)

pub classed_first : (class : ℕ) → Classed class (replicate 256 false) 0
unfolding class_below
classed_first class = record { entries = table_start false (class_below class 0) (λ k. rw (le-ltb k 0 (omega arith))) }

pub classed_again : (class : ℕ) (l : List Bool) (b x : ℕ) → b < 256 → Gives (class_of b) x → Classed class l b → Classed class (set l b (eqb x class)) (b + 1)
unfolding class_below
classed_again class l b x h g w = record {
  entries =
      table_set false l (class_below class b) (class_below class (b + 1)) b (eqb x class) h (rw (lt-ltb b (b + 1) (omega arith), g.answer))
      (λ k d. ap (λ (t : Bool). t && eqb (class_of k) class) (same k d)) w.entries;
}
  where
    same : (k : ℕ) → (k ≡ b → ⊥) → ltb k (b + 1) ≡ ltb k b
    same k d = by (decide (ltb k b))
      where
        by : (ltb k b ≡ true) ⊎ (ltb k b ≡ false) → ltb k (b + 1) ≡ ltb k b
        by (inl u) = lt-ltb k (b + 1) (omega (arith, ltb-true k b u)) ∙ sym u
        by (inr u) = le-ltb k (b + 1) (let z = ltb-false k b u in omega arith) ∙ sym u

pub classed_all : (class : ℕ) (l : List Bool) (b : ℕ) → 256 ≤ b → Classed class l b → l ≡ class_set class
unfolding class_below
classed_all class l b h w =
    table_is false l (λ k. eqb (class_of k) class) (table_same false l (class_below class b) (λ k. eqb (class_of k) class) (λ k m. sym (rw (lt-ltb k b (omega arith)))) w.entries)

-- ---- the probe
taken_yes : (s : List Bool) (n b : ℕ) → get_or s b false ≡ true → accepted_from s (suc n) b ≡ b ∷ accepted_from s n (suc b)
unfolding accepted_from
taken_yes s n b e = rw (e, accepted_from)

taken_no : (s : List Bool) (n b : ℕ) → get_or s b false ≡ false → accepted_from s (suc n) b ≡ accepted_from s n (suc b)
unfolding accepted_from
taken_no s n b e = rw (e, accepted_from)

-- of m + n bytes from b on: the first m, and then the others
split : (s : List Bool) (m n b : ℕ) → accepted_from s (m + n) b ≡ accepted_from s m b ++ accepted_from s n (b + m)
unfolding accepted_from
split s zero n b = rw (zero-add, add-zero)
split s (suc m) n b = rw (suc-add, add-suc) (by (decide (get_or s b false)) (split s m n (suc b)))
  where
    by : (get_or s b false ≡ true) ⊎ (get_or s b false ≡ false) → accepted_from s (m + n) (suc b) ≡ accepted_from s m (suc b) ++ accepted_from s n (suc b + m)
        → accepted_from s (suc (m + n)) b ≡ accepted_from s (suc m) b ++ accepted_from s n (suc (b + m))
    by (inl u) i =
        let z : suc b + m ≡ suc (b + m) = omega arith in
        taken_yes s (m + n) b u ∙ ap (λ (l : List ℕ). b ∷ l) i ∙ rw (taken_yes s m b u, z)
    by (inr u) i =
        let z : suc b + m ≡ suc (b + m) = omega arith in
        taken_no s (m + n) b u ∙ i ∙ rw (taken_no s m b u, z)

-- the needles so far: those that a loop has met below b, three at the most
pub record Probing (s : List Bool) (needles : List ℕ) (n b : ℕ) : Type 0 where
  pub few : n ≤ 3
  pub count : n ≡ length (accepted_from s b 0)
  pub held : needles ≡ padded 3 (accepted_from s b 0)
  pub within : b ≤ 256

pub probing_first : (s : List Bool) → Probing s (replicate 3 0) 0 0
unfolding accepted_from
probing_first s = record { few = omega arith; count = refl; held = refl; within = omega arith }

module _ (s : List Bool) (needles : List ℕ) (n b : ℕ) (w : Probing s needles n b) (h : b < 256) where
  next_yes : get_or s b false ≡ true → accepted_from s (b + 1) 0 ≡ accepted_from s b 0 ++ (b ∷ [])
  unfolding accepted_from
  next_yes e = split s b 1 0 ∙ rw zero-add (ap (λ (l : List ℕ). accepted_from s b 0 ++ l) (taken_yes s 0 b e))

  next_no : get_or s b false ≡ false → accepted_from s (b + 1) 0 ≡ accepted_from s b 0
  unfolding accepted_from
  next_no e = split s b 1 0 ∙ rw zero-add (ap (λ (l : List ℕ). accepted_from s b 0 ++ l) (taken_no s 0 b e) ∙ nil (accepted_from s b 0))
    where
      nil : (l : List ℕ) → l ++ [] ≡ l
      nil [] = refl
      nil (x ∷ l) = ap (λ (z : List ℕ). x ∷ z) (nil l)

  pub probing_no : get_or s b false ≡ false → Probing s needles n (b + 1)
  probing_no e = record {
    few = w.few;
    count = w.count ∙ ap length (sym (next_no e));
    held = w.held ∙ ap (padded 3) (sym (next_no e));
    within = omega arith;
  }

  stored : (l : List ℕ) → length l < 3 → set (padded 3 l) (length l) b ≡ padded 3 (l ++ (b ∷ []))
  stored [] i = refl
  stored (x ∷ []) i = refl
  stored (x ∷ y ∷ []) i = refl
  stored (x ∷ y ∷ z ∷ l) i = absurd (omega arith)

  pub probing_yes : get_or s b false ≡ true → (n ≡ 3 → ⊥) → Probing s (set needles n b) (n + 1) (b + 1)
  probing_yes e d = record {
    few = omega (arith, w.few);
    count = omega (arith, w.count, ap length (next_yes e), length-append (accepted_from s b 0) (b ∷ []));
    held = rw (w.held, w.count) (stored (accepted_from s b 0) (omega (arith, w.few, w.count))) ∙ ap (padded 3) (sym (next_yes e));
    within = omega arith;
  }

  rest : get_or s b false ≡ true → accepted s ≡ accepted_from s b 0 ++ (b ∷ accepted_from s (255 - b) (suc b))
  rest e =
      let z : 256 ≡ b + suc (255 - b) = omega arith in
      ap (λ (m : ℕ). accepted_from s m 0) z ∙ split s b (suc (255 - b)) 0 ∙ rw zero-add (ap (λ (l : List ℕ). accepted_from s b 0 ++ l) (taken_yes s (255 - b) b e))

  three : (l m : List ℕ) (x : ℕ) → length l ≡ 3 → padded 3 l ≡ padded 3 (l ++ (x ∷ m))
  three [] m x i = absurd (omega arith)
  three (p ∷ []) m x i = absurd (omega arith)
  three (p ∷ q ∷ []) m x i = absurd (omega arith)
  three (p ∷ q ∷ r ∷ l) m x i = refl

  -- a fourth
  pub probing_many : get_or s b false ≡ true → n ≡ 3 → record { needles = needles; nn = 0; streaming = false } ≡ probe s
  probing_many e d =
      let l : length (accepted_from s b 0) ≡ 3 = omega (arith, w.count) in
      let m : 3 < length (accepted s) = omega (arith, ap length (rest e), length-append (accepted_from s b 0) (b ∷ accepted_from s (255 - b) (suc b))) in
      let f : needles ≡ padded 3 (accepted s) = w.held ∙ three (accepted_from s b 0) (accepted_from s (255 - b) (suc b)) b l ∙ ap (padded 3) (sym (rest e)) in
      simp (f, lt-leb (length (accepted s)) 3 m)

pub probing_all : (s : List Bool) (needles : List ℕ) (n b : ℕ) → Probing s needles n b → 256 ≤ b → record { needles = needles; nn = n; streaming = true } ≡ probe s
probing_all s needles n b w h =
    let z : b ≡ 256 = omega (arith, w.within) in
    let c : n ≡ length (accepted s) = rw z at w.count in
    let f : needles ≡ padded 3 (accepted s) = rw z at w.held in
    let m : length (accepted s) ≤ 3 = omega (arith, w.few) in
    simp (f, c, le-leb (length (accepted s)) 3 m)
