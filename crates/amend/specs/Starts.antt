-- A list in order and a place: what starts before the place is the list's front, what starts from it on is the rest, and the last of the front decides whether one reaches the place. Assumes nothing.
use Rattle.std.specs.Prelude.{◌≡◌, true, cond, ◌⊎◌, ltb, get_or}
use Rattle.std.proofs.Math.Path.{refl, ap}
use Rattle.std.proofs.Common.{sym, subst, ◌∙◌, inl, inr}
use Rattle.std.proofs.Math.Bool.{false, or-false}
use mathlib.Core.List.{List, [], ◌∷◌, map}
use Prim.Native.Nat.{ℕ, zero, suc, ◌+◌, ◌≤◌, ◌<◌}
use native.Mathlib.Omega.{arith}
use Rattle.std.proofs.Math.Dec.{leb}
use Rattle.std.proofs.Math.ListN.{length, take, drop}
use borrow.Author.Tests.{lt-ltb, le-ltb, ltb-true, ltb-false}
use Rattle.search.specs.SearchLaws.{decide}
use Rattle.region.specs.Region.{Region, move, reaches, keep_before, keep_from, InOrder}
use Rattle.amend.specs.Lists.{reaches_later, from_none}

module _ {T : Type 0} where
  -- ---- between other places
  pub order_longer : (q len m : ℕ) (l : List (Region T)) → len ≤ m → InOrder q len l → InOrder q m l
  order_longer q len m [] h w = tt
  order_longer q len m (r ∷ l) h w = (w.0, w.1, omega arith, order_longer r.stop len m l h w.3)

  pub order_take : (q len i : ℕ) (l : List (Region T)) → InOrder q len l → InOrder q len (take i l)
  order_take q len zero l w = tt
  order_take q len (suc i) [] w = tt
  order_take q len (suc i) (r ∷ l) w = (w.0, w.1, w.2, order_take r.stop len i l w.3)

  pub start_low : (d : Region T) (q len i : ℕ) (l : List (Region T)) → InOrder q len l → i < length l → q ≤ (get_or l i d).start
  start_low d q len i [] w h = absurd (omega arith)
  start_low d q len zero (r ∷ l) w h = w.0
  start_low d q len (suc i) (r ∷ l) w h = omega (arith, start_low d r.stop len i l w.3 (omega arith))

  -- ---- one region
  module _ (k : ℕ) (r : Region T) (l : List (Region T)) where
    before_yes : r.start < k → keep_before k (r ∷ l) ≡ r ∷ keep_before k l
    unfolding keep_before
    before_yes h = rw (lt-ltb r.start k h, keep_before)

    before_no : k ≤ r.start → keep_before k (r ∷ l) ≡ keep_before k l
    unfolding keep_before
    before_no h = rw (le-ltb r.start k h, keep_before)

    from_yes : k ≤ r.start → keep_from k (r ∷ l) ≡ r ∷ keep_from k l
    unfolding keep_from
    from_yes h = rw (le-ltb r.start k h, keep_from)

    from_no : r.start < k → keep_from k (r ∷ l) ≡ keep_from k l
    unfolding keep_from
    from_no h = rw (lt-ltb r.start k h, keep_from)

  -- ---- a list that lies from k on
  none_before : (k q len : ℕ) (l : List (Region T)) → InOrder q len l → k ≤ q → keep_before k l ≡ []
  unfolding keep_before
  none_before k q len [] w h = refl
  none_before k q len (r ∷ l) w h = before_no k r l (omega arith) ∙ none_before k r.stop len l w.3 (omega arith)

  all_from : (k q len : ℕ) (l : List (Region T)) → InOrder q len l → k ≤ q → keep_from k l ≡ l
  unfolding keep_from
  all_from k q len [] w h = refl
  all_from k q len (r ∷ l) w h = from_yes k r l (omega arith) ∙ ap (λ (z : List (Region T)). r ∷ z) (all_from k r.stop len l w.3 (omega arith))

  -- ---- the front and the rest
  module _ (k : ℕ) where
    pub before_take : (q len : ℕ) (l : List (Region T)) → InOrder q len l → keep_before k l ≡ take (length (keep_before k l)) l
    unfolding keep_before
    before_take q len [] w = refl
    before_take q len (r ∷ l) w = by (before_take r.stop len l w.3) (decide (ltb r.start k))
      where
        by : keep_before k l ≡ take (length (keep_before k l)) l → (ltb r.start k ≡ true) ⊎ (ltb r.start k ≡ false) → keep_before k (r ∷ l) ≡ take (length (keep_before k (r ∷ l))) (r ∷ l)
        by ih (inl u) = rw (before_yes k r l (ltb-true r.start k u)) (ap (λ (z : List (Region T)). r ∷ z) ih)
        by ih (inr u) =
            let h = ltb-false r.start k u in
            rw (before_no k r l h ∙ none_before k r.stop len l w.3 (omega arith))

    pub from_drop : (q len : ℕ) (l : List (Region T)) → InOrder q len l → keep_from k l ≡ drop (length (keep_before k l)) l
    unfolding keep_before keep_from
    from_drop q len [] w = refl
    from_drop q len (r ∷ l) w = by (from_drop r.stop len l w.3) (decide (ltb r.start k))
      where
        by : keep_from k l ≡ drop (length (keep_before k l)) l → (ltb r.start k ≡ true) ⊎ (ltb r.start k ≡ false) → keep_from k (r ∷ l) ≡ drop (length (keep_before k (r ∷ l))) (r ∷ l)
        by ih (inl u) = rw (before_yes k r l (ltb-true r.start k u), from_no k r l (ltb-true r.start k u)) ih
        by ih (inr u) =
            let h = ltb-false r.start k u in
            rw (before_no k r l h ∙ none_before k r.stop len l w.3 (omega arith)) (all_from k r.start len (r ∷ l) (omega arith, w.1, w.2, w.3) h)

    pub order_from : (q len : ℕ) (l : List (Region T)) → InOrder q len l → InOrder k len (keep_from k l)
    unfolding keep_from
    order_from q len [] w = tt
    order_from q len (r ∷ l) w = by (order_from r.stop len l w.3) (decide (ltb r.start k))
      where
        by : InOrder k len (keep_from k l) → (ltb r.start k ≡ true) ⊎ (ltb r.start k ≡ false) → InOrder k len (keep_from k (r ∷ l))
        by ih (inl u) = rw (from_no k r l (ltb-true r.start k u)) ih
        by ih (inr u) =
            let h = ltb-false r.start k u in
            rw (all_from k r.start len (r ∷ l) (omega arith, w.1, w.2, w.3) h) (h, w.1, w.2, w.3)

    pub before_few : (l : List (Region T)) → length (keep_before k l) ≤ length l
    unfolding keep_before
    before_few [] = omega arith
    before_few (r ∷ l) = by (before_few l) (decide (ltb r.start k))
      where
        by : length (keep_before k l) ≤ length l → (ltb r.start k ≡ true) ⊎ (ltb r.start k ≡ false) → length (keep_before k (r ∷ l)) ≤ suc (length l)
        by ih (inl u) = rw (before_yes k r l (ltb-true r.start k u)) (omega arith)
        by ih (inr u) = rw (before_no k r l (ltb-false r.start k u)) (omega arith)

    -- a region of the front, and one of the rest
    module _ (d : Region T) where
      pub before_below : (q len i : ℕ) (l : List (Region T)) → InOrder q len l → i < length l → (get_or l i d).start < k → i < length (keep_before k l)
      before_below q len i [] w h m = absurd (omega arith)
      before_below q len zero (r ∷ l) w h m = rw (before_yes k r l m) (omega arith)
      before_below q len (suc i) (r ∷ l) w h m =
          let z : r.start < k = omega (arith, start_low d r.stop len i l w.3 (omega arith)) in
          rw (before_yes k r l z) (omega (arith, before_below r.stop len i l w.3 (omega arith) m))

      pub before_above : (q len i : ℕ) (l : List (Region T)) → InOrder q len l → i < length l → k ≤ (get_or l i d).start → length (keep_before k l) ≤ i
      before_above q len i [] w h m = absurd (omega arith)
      before_above q len zero (r ∷ l) w h m = rw (before_no k r l m ∙ none_before k r.stop len l w.3 (omega arith)) (omega arith)
      before_above q len (suc i) (r ∷ l) w h m = by (before_above r.stop len i l w.3 (omega arith) m) (decide (ltb r.start k))
        where
          by : length (keep_before k l) ≤ i → (ltb r.start k ≡ true) ⊎ (ltb r.start k ≡ false) → length (keep_before k (r ∷ l)) ≤ suc i
          by ih (inl u) = rw (before_yes k r l (ltb-true r.start k u)) (omega arith)
          by ih (inr u) = rw (before_no k r l (ltb-false r.start k u)) (omega arith)

    -- ---- reaching k
    pub reach_none : (l : List (Region T)) → length (keep_before k l) ≡ 0 → reaches k l ≡ false
    unfolding reaches
    reach_none [] e = refl
    reach_none (r ∷ l) e = by (reach_none l) (decide (ltb r.start k))
      where
        by : (length (keep_before k l) ≡ 0 → reaches k l ≡ false) → (ltb r.start k ≡ true) ⊎ (ltb r.start k ≡ false) → reaches k (r ∷ l) ≡ false
        by ih (inl u) = absurd (omega (arith, ap length (before_yes k r l (ltb-true r.start k u))))
        by ih (inr u) = rw u (ih (omega (arith, ap length (before_no k r l (ltb-false r.start k u)))))

    pub reach_last : (d : Region T) (q len m : ℕ) (l : List (Region T)) → InOrder q len l → length (keep_before k l) ≡ suc m → reaches k l ≡ leb k (get_or l m d).stop
    unfolding reaches keep_before
    reach_last d q len m [] w e = absurd (omega arith)
    reach_last d q len m (r ∷ l) w e = by m e (λ m. reach_last d r.stop len m l w.3) (decide (ltb r.start k))
      where
        by : (m : ℕ) → length (keep_before k (r ∷ l)) ≡ suc m → ((m : ℕ) → length (keep_before k l) ≡ suc m → reaches k l ≡ leb k (get_or l m d).stop)
            → (ltb r.start k ≡ true) ⊎ (ltb r.start k ≡ false) → reaches k (r ∷ l) ≡ leb k (get_or (r ∷ l) m d).stop
        by m e ih (inr u) =
            let h = ltb-false r.start k u in
            absurd (omega (arith, ap length (before_no k r l h ∙ none_before k r.stop len l w.3 (omega arith))))
        by zero e ih (inl u) =
            rw (u, reach_none l (omega (arith, ap length (before_yes k r l (ltb-true r.start k u))))) (or-false (leb k r.stop))
        by (suc m) e ih (inl u) =
            let z : length (keep_before k l) ≡ suc m = omega (arith, ap length (before_yes k r l (ltb-true r.start k u))) in
            reaches_later k r l (gone z (decide (ltb r.stop k))) ∙ ih m z
          where
            gone : length (keep_before k l) ≡ suc m → (ltb r.stop k ≡ true) ⊎ (ltb r.stop k ≡ false) → r.stop < k
            gone z (inl v) = ltb-true r.stop k v
            gone z (inr v) = absurd (omega (arith, ap length (none_before k r.stop len l w.3 (ltb-false r.stop k v))))

  -- what starts before one place and what starts from a later one on are at most the list
  pub apart_few : (a b : ℕ) → a ≤ b → (l : List (Region T)) → length (keep_before a l) + length (keep_from b l) ≤ length l
  unfolding keep_before keep_from
  apart_few a b h [] = omega arith
  apart_few a b h (r ∷ l) = by (apart_few a b h l) (decide (ltb r.start a)) (decide (ltb r.start b))
    where
      by : length (keep_before a l) + length (keep_from b l) ≤ length l → (ltb r.start a ≡ true) ⊎ (ltb r.start a ≡ false) → (ltb r.start b ≡ true) ⊎ (ltb r.start b ≡ false)
          → length (keep_before a (r ∷ l)) + length (keep_from b (r ∷ l)) ≤ suc (length l)
      by ih (inl u) v =
          let k = ltb-true r.start a u in
          rw (before_yes a r l k, from_no b r l (omega arith)) (omega arith)
      by ih (inr u) (inl v) = rw (before_no a r l (ltb-false r.start a u), from_no b r l (ltb-true r.start b v)) (omega arith)
      by ih (inr u) (inr v) = rw (before_no a r l (ltb-false r.start a u), from_yes b r l (ltb-false r.start b v)) (omega arith)

  -- from the text's end on nothing starts
  pub unless_end : (f : ℕ → ℕ) (k len q : ℕ) (l : List (Region T)) → k ≤ len → InOrder q len l → map (move f) (keep_from k l) ≡ cond (ltb k len) (map (move f) (keep_from k l)) []
  unless_end f k len q l h w = by (decide (ltb k len))
    where
      by : (ltb k len ≡ true) ⊎ (ltb k len ≡ false) → map (move f) (keep_from k l) ≡ cond (ltb k len) (map (move f) (keep_from k l)) []
      by (inl u) = rw u
      by (inr u) =
          let e : k ≡ len = omega (arith, ltb-false k len u) in
          let none : keep_from k l ≡ [] = subst (λ (j : ℕ). keep_from j l ≡ []) (sym e) (from_none len q l w) in
          rw (u, none)
