-- Laws of the scanners' items: their content starts rise, merged too, and they are no more than the text has bytes. Assumes nothing.
use Rattle.std.specs.Prelude.{◌≡◌, Bool, true, false, List, [], ◌∷◌, map, ◌⊎◌, ltb}
use Rattle.std.proofs.Common.{ap, ◌∙◌, inl, inr, ltb-true, ltb-false}
use Prim.Native.Nat.{ℕ, zero, suc, ◌+◌, ◌-◌, ◌*◌, ◌≤◌}
use native.Mathlib.Omega.{arith}
use Rattle.std.proofs.Math.ListN.{length}
use Rattle.search.specs.SearchLaws.{decide}
use Rattle.common.specs.Turn.{Turn, then_collect, collect, all_found}
use Rattle.common.specs.Turning.{Adv}
use Rattle.common.specs.TurnLaws.{by_turn}
use Rattle.common.specs.ScanningLaws.{turn_adv}
use Rattle.common.specs.declared.grammar.Grammar.{Grammar}
use Rattle.block_marker.specs.Marker as marker
use Rattle.block_marker.specs.MarkerRun as marker_run
use Rattle.block_numbered.specs.Numbered as numbered
use Rattle.block_numbered.specs.NumberedRun as numbered_run
use Rattle.cover.specs.Cursor.{Rising}
use Rattle.feed.specs.Items.{marked, counted, mark_items_from, numbered_items_from, mark_items, numbered_items, merge, tested_place}
use Rattle.sheet.specs.Sheet.{inside, outside}
use Rattle.feed.specs.FeedLaws.{merge_number, merge-mark}
use Rattle.feed.proofs.TestedLaws.{two_before_lem}
use Rattle.feed.specs.declared.item.SheetItem.{SheetItem}

-- items whose content starts never fall, none of them before `low`
abbrev Rises : ℕ → List SheetItem → Type 0
Rises low l = Rising low (map (λ i. i.start) l)

rises_later : (q n : ℕ) (l : List SheetItem) → q ≤ n → Rises n l → Rises q l
rises_later q n [] h w = tt
rises_later q n (i ∷ l) h w = (omega arith, w.1)

-- ---- one scanner: its items have two bytes each before their content
module _ {A : Type 0} {Lies : ℕ → ℕ → A → Type 0} {step : ℕ → Turn A} {len : ℕ} (adv : Adv Lies step len) (item : A → SheetItem)
    (lies : (q n : ℕ) (a : A) → Lies q n a → (q + 2 ≤ (item a).start) × ((item a).start ≤ n)) where
  collect_rises : (f q : ℕ) → q ≤ len → Rises q (map item (collect step f q))
  unfolding collect
  collect_rises zero q h = tt
  collect_rises (suc f) q h =
      by_turn adv (λ t. Rises q (map item (then_collect (collect step f) t))) q h (λ n m i. rises_later q n (map item (collect step f n)) (omega arith) (collect_rises f n i)) (λ v m i. tt)
      (λ a n m i w. let l = lies q n a w in (omega arith, rises_later (item a).start n (map item (collect step f n)) l.1 (collect_rises f n i)))

  collect-few : (f q : ℕ) → q ≤ len → q + length (map item (collect step f q)) * 2 ≤ len
  unfolding collect
  collect-few zero q h = omega arith
  collect-few (suc f) q h =
      by_turn adv (λ t. q + length (map item (then_collect (collect step f) t)) * 2 ≤ len) q h (λ n m i. omega (arith, collect-few f n i)) (λ v m i. omega arith)
      (λ a n m i w. let l = lies q n a w in omega (arith, collect-few f n i))

-- so all that is found rises, and has two bytes of the text each
module _ {A : Type 0} {Lies : ℕ → ℕ → A → Type 0} (item : A → SheetItem) (lies : (q n : ℕ) (a : A) → Lies q n a → (q + 2 ≤ (item a).start) × ((item a).start ≤ n)) where
  found_rises : {step : ℕ → Turn A} {len : ℕ} → Adv Lies step len → Rises 0 (map item (all_found step len 0)) × (length (map item (all_found step len 0)) * 2 ≤ len)
  found_rises {len = len} adv = (collect_rises adv item lies (suc len) 0 (omega arith), omega (arith, collect-few adv item lies (suc len) 0 (omega arith)))

module _ (g : Grammar) (set : List Bool) (s : List ℕ) where
  mark_rises : Rises 0 (mark_items g set s) × (length (mark_items g set s) * 2 ≤ length s)
  unfolding mark_items_from
  mark_rises = found_rises marked (λ q n a w. (w.2, omega arith)) (turn_adv marker_run.lawful (marker.fresh g.eol g.sep g.tab set) set s)

  numbered_rises : Rises 0 (numbered_items g set s) × (length (numbered_items g set s) * 2 ≤ length s)
  unfolding numbered_items_from
  numbered_rises = found_rises counted (λ q n a w. (w.3, omega arith)) (turn_adv numbered_run.lawful (numbered.fresh g.eol g.sep g.tab set) set s)

-- ---- both, merged
merge_rises : (low : ℕ) (xs ys : List SheetItem) → Rises low xs → Rises low ys → Rises low (merge xs ys)
unfolding merge
merge_rises low [] ys v w = w
merge_rises low (x ∷ xs) [] v w = v
merge_rises low (x ∷ xs) (y ∷ ys) v w = by (merge_rises y.start (x ∷ xs) ys) (merge_rises x.start xs (y ∷ ys)) (decide (ltb y.start x.start))
  where
    by : (Rises y.start (x ∷ xs) → Rises y.start ys → Rises y.start (merge (x ∷ xs) ys)) → (Rises x.start xs → Rises x.start (y ∷ ys) → Rises x.start (merge xs (y ∷ ys)))
        → (ltb y.start x.start ≡ true) ⊎ (ltb y.start x.start ≡ false) → Rises low (merge (x ∷ xs) (y ∷ ys))
    by f g (inl u) = rw (merge_number x y xs ys u) (w.0, f (omega (arith, ltb-true y.start x.start u), v.1) w.1)
    by f g (inr u) = rw (merge-mark x y xs ys u) (v.0, g v.1 (ltb-false y.start x.start u, w.1))

merge-length : (xs ys : List SheetItem) → length (merge xs ys) ≡ length xs + length ys
unfolding merge
merge-length [] ys = omega arith
merge-length (x ∷ xs) [] = omega arith
merge-length (x ∷ xs) (y ∷ ys) = by (merge-length (x ∷ xs) ys) (merge-length xs (y ∷ ys)) (decide (ltb y.start x.start))
  where
    by : length (merge (x ∷ xs) ys) ≡ length (x ∷ xs) + length ys → length (merge xs (y ∷ ys)) ≡ length xs + length (y ∷ ys) → (ltb y.start x.start ≡ true) ⊎ (ltb y.start x.start ≡ false)
        → length (merge (x ∷ xs) (y ∷ ys)) ≡ length (x ∷ xs) + length (y ∷ ys)
    by f g (inl u) = ap length (merge_number x y xs ys u) ∙ omega arith
    by f g (inr u) = ap length (merge-mark x y xs ys u) ∙ omega arith

-- so their tested places, two before, never fall either
tested_rises : (p low : ℕ) (l : List SheetItem) → p ≤ low - 2 → Rises low l → Rising p (map tested_place l)
tested_rises p low [] h w = tt
tested_rises p low (i ∷ l) h w = (omega (arith, two_before_lem i.start), tested_rises (tested_place i) i.start l (omega (arith, two_before_lem i.start)) w.1)

-- ---- all items of a text
module _ (g : Grammar) (markers delims : List Bool) (s : List ℕ) where
  -- no more than the text has bytes
  pub items-few : length (merge (mark_items g markers s) (numbered_items g delims s)) ≤ length s
  items-few = omega (arith, merge-length (mark_items g markers s) (numbered_items g delims s), (mark_rises g markers s).1, (numbered_rises g delims s).1)

  -- the places that decide never fall
  pub places_rise : Rising 0 (map tested_place (merge (mark_items g markers s) (numbered_items g delims s)))
  places_rise =
      tested_rises 0 0 (merge (mark_items g markers s) (numbered_items g delims s)) (omega arith)
      (merge_rises 0 (mark_items g markers s) (numbered_items g delims s) (mark_rises g markers s).0 (numbered_rises g delims s).0)

-- ---- those that are shown
pub outside-few : (regions : List (List ℕ)) (l : List SheetItem) → length (outside regions l) ≤ length l
unfolding outside
outside-few regions [] = omega arith
outside-few regions (i ∷ l) = by (outside-few regions l) (decide (inside regions (tested_place i)))
  where
    by : length (outside regions l) ≤ length l → (inside regions (tested_place i) ≡ true) ⊎ (inside regions (tested_place i) ≡ false) → length (outside regions (i ∷ l)) ≤ suc (length l)
    by ih (inl u) = rw (u, outside) (omega arith)
    by ih (inr u) = rw (u, outside) (omega arith)
