-- The items of a work sheet, and both scanners' in one list. Assumes nothing.
-- The page: "It holds the marker and numbered items, both scanned from place 0 … by rising content start, the marker item first where two
-- are equal.", and of an item "kind (0 marker, 1 numbered), accepted byte, number (0 for a marker)".
use Rattle.std.specs.Prelude.{Bool, true, false, List, [], ◌∷◌, map, ℕ, zero, suc, ltb}
use Rattle.common.specs.declared.grammar.Grammar.{Grammar}
use Rattle.block_marker.specs.Marker as marker
use Rattle.block_marker.specs.Marker.{BlockMarkerIter}
use Rattle.block_marker.specs.declared.MarkerItem.{MarkerItem}
use Rattle.block_numbered.specs.Numbered as numbered
use Rattle.block_numbered.specs.Numbered.{BlockNumberedIter}
use Rattle.block_numbered.specs.declared.NumberedItem.{NumberedItem}
use Rattle.feed.specs.declared.item.SheetItem.{SheetItem}

-- ---- one item
-- a marker item: "kind (0 marker …), accepted byte, number (0 for a marker)"
abbrev pub marked : MarkerItem → SheetItem
marked i = record { start = i.span.start; end = i.span.end; kind = 0; byte = i.marker; number = 0 }

-- a numbered item: its kind is 1, the accepted byte its delimiter
abbrev pub counted : NumberedItem → SheetItem
counted i = record { start = i.span.start; end = i.span.end; kind = 1; byte = i.delimiter; number = i.number }

-- ---- all of them
-- the items that a state's scan has before it
unfoldable pub mark_items_from : BlockMarkerIter → List Bool → List ℕ → List SheetItem
mark_items_from g set s = map marked (marker.items g set s)

unfoldable pub numbered_items_from : BlockNumberedIter → List Bool → List ℕ → List SheetItem
numbered_items_from g set s = map counted (numbered.items g set s)

-- "the marker and numbered items, both scanned from place 0": those that a fresh state's scan has before it
abbrev pub mark_items : Grammar → List Bool → List ℕ → List SheetItem
mark_items g set s = mark_items_from (marker.fresh g.eol g.sep g.tab set) set s

abbrev pub numbered_items : Grammar → List Bool → List ℕ → List SheetItem
numbered_items g set s = numbered_items_from (numbered.fresh g.eol g.sep g.tab set) set s

-- marker items and numbered items in one list: "by rising content start, the marker item first where two are equal"
unfoldable pub merge : List SheetItem → List SheetItem → List SheetItem
merge [] ys = ys
merge (x ∷ xs) [] = x ∷ xs
merge (x ∷ xs) (y ∷ ys) = elim (ltb y.start x.start) [ true ↦ y ∷ merge (x ∷ xs) ys | false ↦ x ∷ merge xs (y ∷ ys) ]

-- ---- the place by which a region hides an item
-- two places before one; 0 where there are no two
abbrev pub two_before : ℕ → ℕ
two_before (suc (suc p)) = p
two_before (suc zero) = 0
two_before zero = 0

-- request 2: "Test the marker byte for marker items and the delimiter byte for numbered ones." That byte stands two before the content's
-- start, by every grammar and in both scans (`tested_byte`, TestedLaws.antt)
abbrev pub tested_place : SheetItem → ℕ
tested_place i = two_before i.start
