-- The house work sheet, line by line. Assumes nothing.
-- The page: "The reason given has to be the true one", ""it is on the sheet" only when it is".
use Rattle.std.specs.Prelude.{◌≡◌, Bool, ◌⊎◌, ltb, length}
use Rattle.std.proofs.Math.Path.{refl, ap, fun_ext}
use Rattle.std.proofs.Common.{sym, ◌∙◌, inl, inr, arith, lt-ltb, le-ltb, ltb-true, ltb-false}
use Rattle.std.proofs.Math.Bool.{true, false, cond}
use mathlib.Core.List.{List, [], ◌∷◌, ◌++◌, map, map-append, flat_map}
use Prim.Native.Nat.{ℕ, zero, suc, ◌+◌, ◌-◌, ◌≤◌, ◌<◌}
use Rattle.std.proofs.Math.Seq.{length-slice}
use Rattle.search.specs.Search.{is, first_of, first_place, find, line_start, line_end}
use Rattle.search.specs.SearchLaws.{decide, clash, find_ge, find_le, line_one}
use Rattle.common.specs.Grammars.{house}
use Rattle.common.specs.Entry.{rows, wide}
use Rattle.common.specs.Turn.{gather, between}
use Rattle.common.specs.Turning.{Each}
use Rattle.common.specs.EachLaws.{each_left, each_right, each_all, each_gather, each_as}
use Rattle.common.specs.Items.{line_bytes, leading, beyond, item_at, items_of}
use Rattle.common.specs.ItemLaws.{both, no_line, on_line}
use Rattle.block_marker.specs.Marker as marker
use Rattle.block_numbered.specs.Numbered as numbered
use Rattle.common.specs.Sets.{house_markers, house_delims}
use Rattle.common.specs.Grammars.{house_marks, house_numbers}
use Rattle.feed.specs.HouseLaws.{house_marks_lem, house-numbers}
use Rattle.feed.specs.Items.{marked, counted, mark_items_from, numbered_items_from, mark_items, numbered_items, merge, tested_place}
use Rattle.feed.specs.FeedLaws.{merge_number, merge-mark}
use Rattle.sheet.specs.Sheet.{inside, outside, sheet_of}
use Rattle.common.specs.LineStarts.{starts_from, line_starts}
use Rattle.explain.specs.Reasons.{led_from, led_by}
use Rattle.common.specs.LineStartLaws.{on_start, flat_starts}
use Rattle.explain.specs.LedLaws.{led_items, line-items, Lies, line_lies}
use Rattle.feed.specs.declared.item.SheetItem.{SheetItem}
use Rattle.explain.specs.declared.leads.Lead.{Lead}
use Rattle.explain.specs.declared.leads.Lead.TheVariants as led

-- ---- what a line shows: its item, unless a region hides it
abbrev pub line_items : List ℕ → ℕ → List SheetItem
line_items s a = led_items (led_by a (line_bytes house_marks s a))

abbrev pub shown_on : List (List ℕ) → List ℕ → ℕ → List SheetItem
shown_on regions s a = outside regions (line_items s a)

-- ---- things of places
map-gather : {A B : Type 0} (f : A → B) (at : ℕ → List A) (n a : ℕ) → map f (gather at n a) ≡ gather (λ k. map f (at k)) n a
unfolding gather
map-gather f at zero a = refl
map-gather {B = B} f at (suc n) a = map-append f (at a) (gather at n (suc a)) ∙ ap (λ (l : List B). map f (at a) ++ l) (map-gather f at n (suc a))

-- ---- marker items and numbered items of places, where a place has one item at the most, and a later place's starts later
merge_none : (xs : List SheetItem) → merge xs [] ≡ xs
unfolding merge
merge_none [] = refl
merge_none (x ∷ xs) = refl

mark-first : (x : SheetItem) (xs ys : List SheetItem) → Each (λ j. x.start < j.start) ys → merge (x ∷ xs) ys ≡ x ∷ merge xs ys
unfolding merge
mark-first x xs [] w = ap (λ (l : List SheetItem). x ∷ l) (sym (merge_none xs))
mark-first x xs (y ∷ ys) w = merge-mark x y xs ys (le-ltb y.start x.start (omega (arith, w.0)))

number_first : (y : SheetItem) (xs ys : List SheetItem) → Each (λ j. y.start < j.start) xs → merge xs (y ∷ ys) ≡ y ∷ merge xs ys
unfolding merge
number_first y [] ys w = refl
number_first y (x ∷ xs) ys w = merge_number x y xs ys (lt-ltb y.start x.start w.0)

-- two lists that have one thing together, or none
abbrev One : List SheetItem → Type 0
One [] = Unit {0}
One (x ∷ []) = Unit {0}
One (x ∷ y ∷ l) = ⊥

led_one : (d : Lead) → One (led_items d)
led_one led.NoLine = tt
led_one led.NoLead = tt
led_one led.TenDigits = tt
led_one led.NoDelimiter = tt
led_one led.NoBlank = tt
led_one (led.Item i) = tt

module _ (F G : ℕ → List SheetItem) (len : ℕ) (one : (a : ℕ) → a < len → One (F a ++ G a))
    (later : (a k : ℕ) → a < k → k < len → Each (λ x. Each (λ y. x.start < y.start) (F k ++ G k)) (F a ++ G a)) where
  merge-at : (n a : ℕ) → a + suc n ≤ len → (xs ys : List SheetItem) → F a ≡ xs → G a ≡ ys → One (xs ++ ys) → Each (λ x. (k : ℕ) → a < k → k < len → Each (λ y. x.start < y.start) (F k ++ G k)) (xs ++ ys)
      → merge (gather F n (suc a)) (gather G n (suc a)) ≡ gather (λ k. F k ++ G k) n (suc a)
      → merge (xs ++ gather F n (suc a)) (ys ++ gather G n (suc a)) ≡ (xs ++ ys) ++ gather (λ k. F k ++ G k) n (suc a)
  merge-at n a h [] [] e f o w ih = ih
  merge-at n a h (x ∷ []) [] e f o w ih =
      mark-first x (gather F n (suc a)) (gather G n (suc a)) (each_gather (λ j. x.start < j.start) G n (suc a) (λ k l m. each_right (λ j. x.start < j.start) (F k) (G k) (w.0 k (omega arith) (omega arith))))
      ∙ ap (λ (l : List SheetItem). x ∷ l) ih
  merge-at n a h [] (y ∷ []) e f o w ih =
      number_first y (gather F n (suc a)) (gather G n (suc a)) (each_gather (λ j. y.start < j.start) F n (suc a) (λ k l m. each_left (λ j. y.start < j.start) (F k) (G k) (w.0 k (omega arith) (omega arith))))
      ∙ ap (λ (l : List SheetItem). y ∷ l) ih
  merge-at n a h (x ∷ y ∷ xs) ys e f o w ih = absurd o
  merge-at n a h (x ∷ []) (y ∷ ys) e f o w ih = absurd o
  merge-at n a h [] (x ∷ y ∷ ys) e f o w ih = absurd o

  each_flip : (a : ℕ) (xs : List SheetItem) → ((k : ℕ) → a < k → k < len → Each (λ x. Each (λ y. x.start < y.start) (F k ++ G k)) xs)
      → Each (λ x. (k : ℕ) → a < k → k < len → Each (λ y. x.start < y.start) (F k ++ G k)) xs
  each_flip a [] w = tt
  each_flip a (x ∷ xs) w = ((λ k h l. (w k h l).0), each_flip a xs (λ k h l. (w k h l).1))

  merge-gather : (n a : ℕ) → a + n ≤ len → merge (gather F n a) (gather G n a) ≡ gather (λ k. F k ++ G k) n a
  unfolding gather merge
  merge-gather zero a h = refl
  merge-gather (suc n) a h =
      merge-at n a h (F a) (G a) refl refl (one a (omega arith)) (each_flip a (F a ++ G a) (λ k l m. later a k l m)) (merge-gather n (suc a) (omega arith))

-- ---- what is not hidden
outside-append : (regions : List (List ℕ)) (xs ys : List SheetItem) → outside regions (xs ++ ys) ≡ outside regions xs ++ outside regions ys
unfolding outside
outside-append regions [] ys = refl
outside-append regions (x ∷ xs) ys = by (decide (inside regions (tested_place x))) (outside-append regions xs ys)
  where
    by : (inside regions (tested_place x) ≡ true) ⊎ (inside regions (tested_place x) ≡ false) → outside regions (xs ++ ys) ≡ outside regions xs ++ outside regions ys
        → outside regions (x ∷ (xs ++ ys)) ≡ outside regions (x ∷ xs) ++ outside regions ys
    by (inl u) ih = rw (u, outside) ih
    by (inr u) ih = rw (u, outside) (ap (λ (l : List SheetItem). x ∷ l) ih)

outside-gather : (regions : List (List ℕ)) (at : ℕ → List SheetItem) (n a : ℕ) → outside regions (gather at n a) ≡ gather (λ k. outside regions (at k)) n a
unfolding gather outside
outside-gather regions at zero a = refl
outside-gather regions at (suc n) a = outside-append regions (at a) (gather at n (suc a)) ∙ ap (λ (l : List SheetItem). outside regions (at a) ++ l) (outside-gather regions at n (suc a))

module _ (s : List ℕ) where
  -- what a place has of each scanner
  abbrev marks_at : ℕ → List SheetItem
  marks_at a = map marked (item_at house_marks (marker.mark_line house_marks) s a)

  abbrev numbers_at : ℕ → List SheetItem
  numbers_at a = map counted (item_at house_numbers (numbered.number_line house_numbers) s a)

  mark-items : mark_items house house_markers s ≡ between marks_at 0 (length s)
  unfolding mark_items_from items_of
  mark-items = ap (map marked) (house_marks_lem s) ∙ map-gather marked (item_at house_marks (marker.mark_line house_marks) s) (length s - 0) 0

  number_items : numbered_items house house_delims s ≡ between numbers_at 0 (length s)
  unfolding numbered_items_from items_of
  number_items = ap (map counted) (house-numbers s) ∙ map-gather counted (item_at house_numbers (numbered.number_line house_numbers) s) (length s - 0) 0

  -- both together are the line's item, where a line begins
  at_place : (a : ℕ) → marks_at a ++ numbers_at a ≡ on_start 10 s (line_items s) a
  at_place a = by (decide (line_start 10 s a))
    where
      by : (line_start 10 s a ≡ true) ⊎ (line_start 10 s a ≡ false) → marks_at a ++ numbers_at a ≡ on_start 10 s (line_items s) a
      by (inl u) = rw (on_line house_marks (marker.mark_line house_marks) s a u, on_line house_numbers (numbered.number_line house_numbers) s a u, u) (line-items a (line_bytes house_marks s a))
      by (inr u) = rw (no_line house_marks (marker.mark_line house_marks) s a u, no_line house_numbers (numbered.number_line house_numbers) s a u, u)

  -- the content of a line's item starts on the line
  pub lies_on : (a : ℕ) → a ≤ length s → Each (Lies a (line_end 10 s a)) (line_items s a)
  lies_on a h = line_lies a (line_end 10 s a) (line_bytes house_marks s a) (omega (arith, find_ge (is 10) s a, length-slice a (line_end 10 s a) s (find_le (is 10) s a h)))

  one_at : (a : ℕ) → One (on_start 10 s (line_items s) a)
  one_at a = both One (line_start 10 s a) (line_items s a) [] (λ e. led_one (led_by a (line_bytes house_marks s a))) (λ e. tt)

  -- a later place's item starts later: its line begins behind the end of the earlier one
  later_at : (a k : ℕ) → a < k → k < length s → Each (λ x. Each (λ y. x.start < y.start) (on_start 10 s (line_items s) k)) (on_start 10 s (line_items s) a)
  later_at a k h m = by (decide (line_start 10 s a)) (decide (line_start 10 s k))
    where
      behind : line_start 10 s k ≡ true → (ltb (line_end 10 s a) k ≡ true) ⊎ (ltb (line_end 10 s a) k ≡ false) → line_end 10 s a < k
      behind v (inl w) = ltb-true (line_end 10 s a) k w
      behind v (inr w) = absurd (clash v (line_one 10 s a k h (ltb-false (line_end 10 s a) k w)))

      by : (line_start 10 s a ≡ true) ⊎ (line_start 10 s a ≡ false) → (line_start 10 s k ≡ true) ⊎ (line_start 10 s k ≡ false)
          → Each (λ x. Each (λ y. x.start < y.start) (on_start 10 s (line_items s) k)) (on_start 10 s (line_items s) a)
      by (inr u) v = rw u tt
      by (inl u) (inr v) = rw v (each_all (λ x. Unit {0}) (λ x. tt) (on_start 10 s (line_items s) a))
      by (inl u) (inl v) =
          let l = behind v (decide (ltb (line_end 10 s a) k)) in
          rw (u, v)
          (each_as (Lies a (line_end 10 s a)) (λ x. Each (λ y. x.start < y.start) (line_items s k))
          (λ x w. each_as (Lies k (line_end 10 s k)) (λ y. x.start < y.start) (λ y z. omega arith) (line_items s k) (lies_on k (omega arith))) (line_items s a) (lies_on a (omega arith)))

  -- all items of both scanners, by place
  items_by_place : merge (mark_items house house_markers s) (numbered_items house house_delims s) ≡ between (on_start 10 s (line_items s)) 0 (length s)
  items_by_place =
      let e : (λ k. marks_at k ++ numbers_at k) ≡ on_start 10 s (line_items s) = fun_ext at_place in
      rw (mark-items, number_items)
      (merge-gather marks_at numbers_at (length s) (λ a h. rw (at_place a) (one_at a)) (λ a k h l. rw (at_place a, at_place k) (later_at a k h l)) (length s - 0) 0 (omega arith)
      ∙ ap (λ (f : ℕ → List SheetItem). gather f (length s - 0) 0) e)

  shown_by_place : (l : List ℕ) (n : ℕ) → sheet_of house house_markers house_delims l n s ≡ between (on_start 10 s (shown_on (rows wide n l) s)) 0 (length s)
  unfolding sheet_of outside
  shown_by_place l n =
      let e : (λ k. outside (rows wide n l) (on_start 10 s (line_items s) k)) ≡ on_start 10 s (shown_on (rows wide n l) s) = fun_ext (λ k. by k (line_start 10 s k)) in
      ap (outside (rows wide n l)) items_by_place ∙ outside-gather (rows wide n l) (on_start 10 s (line_items s)) (length s - 0) 0 ∙ ap (λ (f : ℕ → List SheetItem). gather f (length s - 0) 0) e
    where
      by : (k : ℕ) (y : Bool) → outside (rows wide n l) (cond y (line_items s k) []) ≡ cond y (shown_on (rows wide n l) s k) []
      by k true = refl
      by k false = refl

-- the house sheet is, line by line from the first, what the lines show
pub sheet_by_lines : (l : List ℕ) (n : ℕ) (s : List ℕ) → sheet_of house house_markers house_delims l n s ≡ flat_map (shown_on (rows wide n l) s) (line_starts 10 s)
unfolding starts_from flat_map gather outside led_by led_from leading beyond find first_place first_of
sheet_by_lines l n [] = shown_by_place [] l n
sheet_by_lines l n (x ∷ s) = shown_by_place (x ∷ s) l n ∙ sym (flat_starts 10 (x ∷ s) (shown_on (rows wide n l) (x ∷ s)) (omega arith))
