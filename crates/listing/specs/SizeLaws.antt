-- How long a listing can be: at most 1,000,000 bytes for each text that is listed. Assumes nothing.
use Rattle.std.specs.Prelude.{◌≡◌, Bool, List, [], ◌∷◌, ◌++◌, map, ltb}
use Prim.Native.Nat.{ℕ, zero, suc, ◌+◌, ◌*◌, ◌≤◌, ◌<◌}
use Rattle.std.proofs.Common.{zero-mul, suc-mul, mul-le-mul_right, ltb-false}
use native.Mathlib.Omega.{arith}
use Rattle.std.proofs.Math.ListN.{length, length-append}
use Rattle.decimal.specs.Decimal.{decimal}
use Rattle.decimal.specs.DecimalLaws.{decimal-few}
use Rattle.common.specs.Entry.{flatten, rows, wide}
use Rattle.common.specs.Refusals.{span_values}
use Rattle.common.specs.Turn.{Turn, then_collect, collect}
use Rattle.common.specs.Turning.{Adv, Each}
use Rattle.common.specs.EachLaws.{each_as, each_map}
use Rattle.common.specs.TurnLaws.{by_turn, collect_each, turns_each}
use Rattle.common.specs.ItemLaws.{both}
use Rattle.region.specs.Region.{Caused, InOrder, row_of}
use Rattle.region.specs.Ahead.{regions_in_order}
use Rattle.fence.specs.Fence as fence
use Rattle.fence.specs.Laws as fence_laws
use Rattle.fence.specs.Run as fence_run
use Rattle.cont.specs.Frames.{frames}
use Rattle.common.specs.Scanning.{Scanner, fresh, turn, items}
use Rattle.common.specs.ScanningLaws.{Lawful, turn_adv, fresh_place}
use Rattle.block_marker.specs.Marker as marker
use Rattle.block_marker.specs.MarkerRun as marker_run
use Rattle.block_marker.specs.declared.MarkerItem.{MarkerItem}
use Rattle.block_numbered.specs.Numbered as numbered
use Rattle.block_numbered.specs.NumberedRun as numbered_run
use Rattle.block_numbered.specs.declared.NumberedItem.{NumberedItem}
use Rattle.feed.specs.Items.{marked, counted, mark_items_from, numbered_items_from, merge}
use Rattle.sheet.specs.Sheet.{sheet_of}
use Rattle.feed.specs.declared.item.SheetItem.{SheetItem}
use Rattle.listing.specs.Lines.{field, fields, line, lines}
use Rattle.listing.specs.Room.{Room}
use Rattle.common.specs.Sets.{house_markers, house_delims}
use Rattle.listing.specs.Listing.{house_gram, house_fence, house_framing, house_regions, region_lines, fence_fields, fence_lines_of, frame_lines, item_lines_of, marker_lines, numbered_lines, sheet_row, house_sheet, sheet_lines, entries, printed}
use Rattle.listing.specs.FoundLaws.{few-regions, few-shown}
use Rattle.listing.specs.FrameSize.{Inside, frames-inside, frames-few}
use Rattle.listing.specs.ItemSize.{Mark, Delimiter, mark_byte, number_byte, each_outside}
use Rattle.feed.specs.FeedLaws.{each_merge}

-- ---- lines
field_most : (d n : ℕ) → length (decimal n) ≤ d → length (field n) ≤ suc d
unfolding field
field_most d n h = omega arith

-- a place of the text, a byte, and the number of an item
place_most : (n : ℕ) → n ≤ 8192 → length (field n) ≤ 5
place_most n h = field_most 4 n (decimal-few 3 n (omega arith))

byte_most : (n : ℕ) → n < 256 → length (field n) ≤ 4
byte_most n h = field_most 3 n (decimal-few 2 n (omega arith))

number_most : (n : ℕ) → n < 1000000000 → length (field n) ≤ 10
number_most n h = field_most 9 n (decimal-few 8 n (omega arith))

line_size : (letter : ℕ) (ns : List ℕ) → length (line letter ns) ≡ 2 + length (fields ns)
line_size letter ns = omega (arith, length-append (fields ns) (10 ∷ []))

fields_size : (n : ℕ) (ns : List ℕ) → length (fields (n ∷ ns)) ≡ length (field n) + length (fields ns)
fields_size n ns = length-append (field n) (fields ns)

module _ (letter a b : ℕ) (ha : a ≤ 8192) (hb : b ≤ 8192) where
  two_most : length (line letter (a ∷ b ∷ [])) ≤ 12
  two_most = omega (arith, line_size letter (a ∷ b ∷ []), fields_size a (b ∷ []), fields_size b [], place_most a ha, place_most b hb)

  module _ (c : ℕ) (hc : c < 256) where
    three_most : length (line letter (a ∷ b ∷ c ∷ [])) ≤ 16
    three_most = omega (arith, line_size letter (a ∷ b ∷ c ∷ []), fields_size a (b ∷ c ∷ []), fields_size b (c ∷ []), fields_size c [], place_most a ha, place_most b hb, byte_most c hc)

    four_most : (d : ℕ) → d < 1000000000 → length (line letter (a ∷ b ∷ c ∷ d ∷ [])) ≤ 26
    four_most d hd =
        omega (arith, line_size letter (a ∷ b ∷ c ∷ d ∷ []), fields_size a (b ∷ c ∷ d ∷ []), fields_size b (c ∷ d ∷ []), fields_size c (d ∷ []), fields_size d [], place_most a ha, place_most b hb, byte_most c hc, number_most d hd)

lines_most : {A : Type 0} (letter m : ℕ) (row : A → List ℕ) (l : List A) → Each (λ a. length (line letter (row a)) ≤ m) l → length (lines letter row l) ≤ length l * m
lines_most letter m row [] w = omega (arith, zero-mul m)
lines_most letter m row (a ∷ l) w = omega (arith, length-append (line letter (row a)) (lines letter row l), lines_most letter m row l w.1, suc-mul (length l) m)

-- ---- what turns find is no more than the text has places
module _ {A : Type 0} {Lies : ℕ → ℕ → A → Type 0} {step : ℕ → Turn A} {len : ℕ} (adv : Adv Lies step len) where
  found_few : (f q : ℕ) → q ≤ len → length (collect step f q) + q ≤ len
  unfolding collect
  found_few zero q h = omega arith
  found_few (suc f) q h =
      by_turn adv (λ t. length (then_collect (collect step f) t) + q ≤ len) q h (λ n m i. omega (arith, found_few f n i)) (λ v m i. omega arith) (λ a n m i w. omega (arith, found_few f n i))

each_both : {A : Type 0} (P Q : A → Type 0) (l : List A) → Each P l → Each Q l → Each (λ a. P a × Q a) l
each_both P Q [] v w = tt
each_both P Q (a ∷ l) v w = ((v.0, w.0), each_both P Q l v.1 w.1)

-- the lines of an item scanner's items, where none is longer than m
items_most : {S A : Type 0} {c : Scanner S A} {Lies : ℕ → ℕ → A → Type 0} (w : Lawful c Lies) (letter m : ℕ) (house : List Bool) (s : List ℕ) (P : A → Type 0)
    → ((i : A) → P i → length (line letter (c.values i)) ≤ m) → Each P (items c (fresh c 10 32 9 house) house s) → length (item_lines_of c letter house s) ≤ length s * m
items_most {c = c} w letter m house s P fits each =
    let g = fresh c 10 32 9 house in
    let l = items c g house s in
    let few : length l ≤ length s = omega (arith, found_few (turn_adv w g house s) (suc (length s)) (c.fields g).pos (omega (arith, fresh_place w 10 32 9 house))) in
    omega (arith, lines_most letter m c.values l (each_as P (λ i. length (line letter (c.values i)) ≤ m) fits l each), mul-le-mul_right m few)

module _ (s : List ℕ) (h : length s ≤ 8192) where
  -- ---- regions
  regions-inside : (from : ℕ) (l : List Caused) → InOrder from (length s) l → Each (λ r. length (line 82 (row_of r)) ≤ 12) l
  regions-inside from [] w = tt
  regions-inside from (r ∷ l) w = (two_most 82 r.start r.stop (omega arith) (omega arith), regions-inside r.stop l w.3)

  region_most : length (region_lines s) ≤ 49164
  unfolding region_lines house_regions
  region_most = omega (arith, few-regions s h, lines_most 82 12 row_of (house_regions s) (regions-inside 0 (house_regions s) (regions_in_order (house_gram) s)))

  -- ---- fences
  fence_most : (byte : ℕ) → byte < 256 → length (fence_lines_of byte s) ≤ 131072
  unfolding fence_lines_of fence.fences
  fence_most byte k =
      let g = house_fence byte in
      let adv = fence_laws.turn_adv g s in
      let l = collect (fence.open_turn g s) (suc (length s)) 0 in
      let w : Each (λ f. length (line 70 (fence_fields byte f)) ≤ 16) l = collect_each adv (λ f. length (line 70 (fence_fields byte f)) ≤ 16) (λ q n f i v. three_most 70 f.start f.end (omega arith) (omega arith) byte k) (suc (length s)) 0 (omega arith) in
      rw (← (fence_run.turns_find g s 0 (omega arith))) (omega (arith, found_few adv (suc (length s)) 0 (omega arith), lines_most 70 16 (fence_fields byte) l w))

  -- ---- frames
  frame_most : length (frame_lines s) ≤ 98304
  unfolding frame_lines
  frame_most =
      let m = house_framing 8 in
      omega (arith, frames-few m s, lines_most 67 12 span_values (frames m s) (each_as (Inside (length s)) (λ f. length (line 67 (span_values f)) ≤ 12) (λ f w. two_most 67 f.start f.end (omega arith) (omega arith)) (frames m s) (frames-inside m s)))

  -- ---- items
  marks_fit : Each (λ i. (i.span.start ≤ 8192) × (i.span.end ≤ 8192) × (i.marker < 256)) (marker.items (marker.fresh 10 32 9 house_markers) house_markers s)
  marks_fit =
      let g = marker.fresh 10 32 9 house_markers in
      let l = marker.items g house_markers s in
      let In : MarkerItem → Type 0 = λ i. (i.span.start ≤ 8192) × (i.span.end ≤ 8192) in
      each_as (λ i. In i × Mark i) (λ i. (i.span.start ≤ 8192) × (i.span.end ≤ 8192) × (i.marker < 256)) (λ i w. (w.0.0, w.0.1, w.1)) l
      (each_both In Mark l (collect_each (turn_adv marker_run.lawful g house_markers s) In (λ q n i k w. (omega arith, omega arith)) (suc (length s)) 0 (omega arith)) (turns_each Mark (turn marker.scanner g house_markers s) (mark_byte s) (suc (length s)) 0))

  numbers_fit : Each (λ i. (i.span.start ≤ 8192) × (i.span.end ≤ 8192) × (i.delimiter < 256) × (i.number < 1000000000)) (numbered.items (numbered.fresh 10 32 9 house_delims) house_delims s)
  numbers_fit =
      let g = numbered.fresh 10 32 9 house_delims in
      let l = numbered.items g house_delims s in
      let In : NumberedItem → Type 0 = λ i. (i.span.start ≤ 8192) × (i.span.end ≤ 8192) × (i.number < 1000000000) in
      each_as (λ i. In i × Delimiter i) (λ i. (i.span.start ≤ 8192) × (i.span.end ≤ 8192) × (i.delimiter < 256) × (i.number < 1000000000)) (λ i w. (w.0.0, w.0.1, w.1, w.0.2)) l
      (each_both In Delimiter l (collect_each (turn_adv numbered_run.lawful g house_delims s) In (λ q n i k w. (omega arith, omega arith, omega arith)) (suc (length s)) 0 (omega arith))
      (turns_each Delimiter (turn numbered.scanner g house_delims s) (number_byte s) (suc (length s)) 0))

  marker_most : length (marker_lines s) ≤ 131072
  unfolding marker_lines
  marker_most =
      omega (arith, items_most marker_run.lawful 77 16 house_markers s (λ i. (i.span.start ≤ 8192) × (i.span.end ≤ 8192) × (i.marker < 256)) (λ i w. three_most 77 i.span.start i.span.end w.0 w.1 i.marker w.2) marks_fit)

  numbered_most : length (numbered_lines s) ≤ 212992
  unfolding numbered_lines
  numbered_most =
      omega (arith, items_most numbered_run.lawful 78 26 house_delims s (λ i. (i.span.start ≤ 8192) × (i.span.end ≤ 8192) × (i.delimiter < 256) × (i.number < 1000000000)) (λ i w. four_most 78 i.span.start i.span.end w.0 w.1 i.delimiter w.2 i.number w.3) numbers_fit)

  -- ---- the work sheet
  shown_fit : Each (λ i. length (line 87 (sheet_row i)) ≤ 26) (house_sheet s)
  unfolding house_sheet sheet_of mark_items_from numbered_items_from
  shown_fit =
      let P : SheetItem → Type 0 = λ i. length (line 87 (sheet_row i)) ≤ 26 in
      let ms = marker.items (marker.fresh 10 32 9 house_markers) house_markers s in
      let ns = numbered.items (numbered.fresh 10 32 9 house_delims) house_delims s in
      let a : Each P (map marked ms) = each_map P marked ms (each_as (λ i. (i.span.start ≤ 8192) × (i.span.end ≤ 8192) × (i.marker < 256)) (λ i. P (marked i)) (λ i w. omega (arith, three_most 87 i.span.start i.span.end w.0 w.1 i.marker w.2)) ms marks_fit) in
      let b : Each P (map counted ns) = each_map P counted ns (each_as (λ i. (i.span.start ≤ 8192) × (i.span.end ≤ 8192) × (i.delimiter < 256) × (i.number < 1000000000)) (λ i. P (counted i)) (λ i w. four_most 87 i.span.start i.span.end w.0 w.1 i.delimiter w.2 i.number w.3) ns numbers_fit) in
      each_outside P (rows wide (length (house_regions s)) (flatten row_of (house_regions s))) (merge (map marked ms) (map counted ns)) (each_merge P (map marked ms) (map counted ns) a b)

  sheet_most : length (sheet_lines s) ≤ 212992
  unfolding sheet_lines
  sheet_most = omega (arith, few-shown s, lines_most 87 26 sheet_row (house_sheet s) shown_fit)

  -- ---- all of it
  entries_most : length (entries s) ≤ 1000000
  unfolding entries
  entries_most =
      let f = fence_lines_of 96 s in
      let g = fence_lines_of 126 s in
      let c = frame_lines s in
      let m = marker_lines s in
      let n = numbered_lines s in
      let w = sheet_lines s in
      omega (arith, length-append (region_lines s) (f ++ (g ++ (c ++ (m ++ (n ++ w))))), length-append f (g ++ (c ++ (m ++ (n ++ w)))), length-append g (c ++ (m ++ (n ++ w))), length-append c (m ++ (n ++ w)), length-append m (n ++ w), length-append n w, region_most, fence_most 96 (omega arith), fence_most 126 (omega arith), frame_most, marker_most, numbered_most, sheet_most)

  pub entries-room : Room 0 (entries s)
  entries-room = record { fits = omega (arith, entries_most) }

-- a run of 1,000,000 bytes has room for the listing of every text
pub printed_most : (s : List ℕ) → length (printed s) ≤ 1000000
unfolding printed
printed_most s = both (λ (l : List ℕ). length l ≤ 1000000) (ltb 8192 (length s)) (line 88 (1 ∷ [])) (entries s) (λ e. omega (arith, line_size 88 (1 ∷ []), fields_size 1 [], byte_most 1 (omega arith))) (λ e. entries_most s (ltb-false 8192 (length s) e))
