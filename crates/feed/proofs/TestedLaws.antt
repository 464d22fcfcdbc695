-- Laws of the place by which a region hides an item: it is that of the item's own byte. Assumes nothing.
use Rattle.std.specs.Prelude.{◌≡◌, refl, Bool, List, ℕ, zero, suc, ◌+◌, ◌-◌, ◌≤◌, ◌<◌, length, get_or}
use Rattle.std.proofs.Common.{sym, ◌∙◌, arith}
use Rattle.search.specs.Promise.{Gives}
use Rattle.common.specs.Turning.{Each}
use Rattle.common.specs.TurnLaws.{turns_each}
use Rattle.common.specs.EachLaws.{each_as, each_map}
use Rattle.common.specs.ItemLaws.{Heads}
use Rattle.common.specs.Scanning.{turn}
use Rattle.common.specs.declared.grammar.Grammar.{Grammar}
use Rattle.block_marker.specs.Marker as marker
use Rattle.block_marker.specs.MarkerLaws.{Marks}
use Rattle.block_marker.specs.MarkerRun as marker_run
use Rattle.block_marker.specs.Marker.{BlockMarkerIter}
use Rattle.block_numbered.specs.Numbered as numbered
use Rattle.block_numbered.specs.NumberedLaws.{Delimits}
use Rattle.block_numbered.specs.NumberedRun as numbered_run
use Rattle.block_numbered.specs.Numbered.{BlockNumberedIter}
use Rattle.feed.specs.Items.{marked, counted, mark_items_from, numbered_items_from, mark_items, numbered_items, merge, two_before, tested_place}
use Rattle.feed.specs.FeedLaws.{each_merge}
use Rattle.feed.specs.declared.item.SheetItem.{SheetItem}

-- the tested place is one of the text, the item's accepted byte stands there, and the content begins two behind
pub record Tested (s : List ℕ) (i : SheetItem) : Type 0 where
  pub within : tested_place i < length s
  pub same : get_or s (tested_place i) 0 ≡ i.byte
  pub parts : tested_place i + 2 ≡ i.start

-- as a difference, for sums
pub two_before_lem : (n : ℕ) → two_before n ≡ n - 2
two_before_lem (suc (suc p)) = omega arith
two_before_lem (suc zero) = refl
two_before_lem zero = refl

heads_tested : (s : List ℕ) (i : SheetItem) → Heads s i.byte i.start → Tested s i
heads_tested s i w =
    let e = two_before_lem i.start in
    let l = w.low in
    let h = w.high in
    record { within = omega (arith, e); same = rw e w.same; parts = omega (arith, e) }

-- of every item that a state has before it, whatever its bytes: they may collide, and the state may be handmade
pub marker_tested : (g : BlockMarkerIter) (set : List Bool) (s : List ℕ) → Each (Tested s) (mark_items_from g set s)
unfolding mark_items_from
marker_tested g set s =
    let l = marker.items g set s in
    each_map (Tested s) marked l
    (each_as (Marks s) (λ i. Tested s (marked i)) (λ i w. heads_tested s (marked i) w) l
    (turns_each (Marks s) (turn marker.scanner g set s) (marker_run.turn_heads g set s) (suc (length s)) g.pos))

pub delimiter_tested : (g : BlockNumberedIter) (set : List Bool) (s : List ℕ) → Each (Tested s) (numbered_items_from g set s)
unfolding numbered_items_from
delimiter_tested g set s =
    let l = numbered.items g set s in
    each_map (Tested s) counted l
    (each_as (Delimits s) (λ i. Tested s (counted i)) (λ i w. heads_tested s (counted i) w) l
    (turns_each (Delimits s) (turn numbered.scanner g set s) (numbered_run.turn_heads g set s) (suc (length s)) g.pos))

-- the byte that decides over each item of a sheet, by every grammar and every two sets, is the item's marker or delimiter
pub tested_byte : (g : Grammar) (markers delims : List Bool) (s : List ℕ) → Each (Tested s) (merge (mark_items g markers s) (numbered_items g delims s))
tested_byte g markers delims s =
    each_merge (Tested s) (mark_items g markers s) (numbered_items g delims s) (marker_tested (marker.fresh g.eol g.sep g.tab markers) markers s)
    (delimiter_tested (numbered.fresh g.eol g.sep g.tab delims) delims s)

-- ---- the ways out of `tested_place`
pub tested_low : (i : SheetItem) → i.start < 2 → Gives (tested_place i) 0
tested_low i h = record { answer = omega (arith, two_before_lem i.start) }

pub tested_two : (i : SheetItem) (p : ℕ) → 2 ≤ i.start → p ≡ i.start - 2 → Gives (tested_place i) p
tested_two i p h e = record { answer = e ∙ sym (two_before_lem i.start) }
