-- The work sheet holds the items that the page declares: of the text's lines, by their bytes. Assumes nothing.
-- The page: "It holds the marker and numbered items, both scanned from place 0 … by rising content start, the marker item first where two
-- are equal." What a scan finds is told here by the bytes of each line.
use Rattle.std.specs.Prelude.{◌≡◌, Bool, ℕ, ◌≤◌, length}
use Rattle.std.proofs.Math.Path.{ap}
use Rattle.std.proofs.Common.{◌∙◌}
use mathlib.Core.List.{List, map}
use Rattle.common.specs.Entry.{rows, wide}
use Rattle.common.specs.Sets.{accepted}
use Rattle.common.specs.Items.{ItemGrammar, grammar, has, Apart}
use Rattle.common.specs.declared.grammar.Grammar.{Grammar}
use Rattle.block_marker.specs.Marker as marker
use Rattle.block_marker.specs.MarkerRun as marker_run
use Rattle.block_numbered.specs.Numbered as numbered
use Rattle.block_numbered.specs.Numbered.{NoDigit, DigitsApart}
use Rattle.block_numbered.specs.NumberedRun as numbered_run
use Rattle.feed.specs.Items.{marked, counted, mark_items_from, numbered_items_from, mark_items, numbered_items, merge}
use Rattle.feed.specs.declared.item.SheetItem.{SheetItem}
use Rattle.sheet.specs.Sheet.{outside, sheet_of}

-- what the lines are read by: the grammar's bytes, and a set of accepted bytes
abbrev pub read_by : Grammar → List Bool → ItemGrammar
read_by g set = grammar g.eol g.sep g.tab (has set)

-- the page's conditions on the bytes are asked where a scan streams, that is with up to three accepted bytes; with more of them nothing is
-- asked of markers, and of delimiters only that none is a digit
module _ (g : Grammar) (markers delims : List Bool) (s : List ℕ) (marks-size : length markers ≡ 256) (delims-size : length delims ≡ 256)
    (marks_apart : length (accepted markers) ≤ 3 → Apart (read_by g markers))
    (delims_apart : length (accepted delims) ≤ 3 → DigitsApart (read_by g delims)) (no_digit : NoDigit (read_by g delims)) where
  mark-items : mark_items g markers s ≡ map marked (marker.markers (read_by g markers) s)
  unfolding mark_items_from
  mark-items = ap (map marked) (marker_run.fresh-items markers s g.eol g.sep g.tab marks-size marks_apart)

  numbered-items : numbered_items g delims s ≡ map counted (numbered.numbers (read_by g delims) s)
  unfolding numbered_items_from
  numbered-items = ap (map counted) (numbered_run.fresh-items delims s g.eol g.sep g.tab delims-size delims_apart no_digit)

  -- the sheet of n regions of the list l: the items of the lines, merged, without those that a region hides
  pub page-sheet : (l : List ℕ) (n : ℕ) → sheet_of g markers delims l n s ≡ outside (rows wide n l) (merge (map marked (marker.markers (read_by g markers) s)) (map counted (numbered.numbers (read_by g delims) s)))
  unfolding sheet_of
  page-sheet l n = ap (outside (rows wide n l)) (ap (λ (x : List SheetItem). merge x (numbered_items g delims s)) mark-items ∙ ap (merge (map marked (marker.markers (read_by g markers) s))) numbered-items)
