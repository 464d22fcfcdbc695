-- By the list that building left, the listed sheet is the one that the rules give at once. Assumes nothing.
-- The page: "The work sheet takes a text, the grammar bytes, the marker and delimiter sets and a list, but no rule columns."
use Rattle.std.specs.Prelude.{◌≡◌, ℕ, drop}
use Rattle.std.proofs.Math.Path.{refl, sym, ap}
use Rattle.std.proofs.Common.{subst, ◌∙◌, arith}
use Rattle.std.proofs.Math.Bool.{false}
use mathlib.Core.List.{List, map}
use Rattle.std.proofs.Math.ListN.{length, length-append}
use borrow.Author.Tests.{le-ltb}
use Rattle.common.specs.Entry.{flatten, rows, room, over, overfull, wide}
use Rattle.common.specs.EntryLaws.{rows-flatten, length-flatten, holds-shaped}
use Rattle.common.specs.Lists.{filled_answer}
use Rattle.common.specs.Sets.{set_of}
use Rattle.common.specs.declared.grammar.Grammar.{Grammar}
use Rattle.cover.specs.Shape.{misshapen}
use Rattle.rules.specs.Columns.{gram_of}
use Rattle.region.specs.Region.{row_of}
use Rattle.region.specs.Regions.{built_by}
use Rattle.region.specs.Ahead.{regions-shaped}
use Rattle.region.specs.LoopLaws.{row-wide}
use Rattle.feed.specs.declared.item.SheetItem.{SheetItem}
use Rattle.sheet.specs.Sheet.{sheet_of, sheet_answer}
use Rattle.sheet.specs.SheetLaws.{judged_on}
use Rattle.cells.specs.Bytes.{cells}
use Rattle.rules.specs.ByteRules.{ColumnRuns, columns_in, uneven_columns}
use Rattle.cells.specs.Poured.{ListRuns}
use Rattle.cells.specs.PouredLaws.{build_good}
use Rattle.pour.specs.Building.{BuiltBytes}
use Rattle.pour.specs.BackLaws.{built_back, built_passed}
use Rattle.sheeting.specs.Sheeting.{item_bytes, sheet_with, SheetPoured, SheetBytes}
use Rattle.sheeting.specs.SheetingLaws.{region_rows}
use Rattle.listed.specs.Listed.{listed_items, ListedSheet}

-- building returned 0 and left `built`
module _ (g : Grammar) (c : ColumnRuns) (s : List ℕ) (before built : ListRuns) (w : BuiltBytes g c s before built 0) where
  list_built : cells built.list ≡ over (flatten row_of (built_by g (columns_in c) s)) (cells before.list)
  list_built = built_back (gram_of g (columns_in c)) (uneven_columns c) s before built w

  rows_built : rows wide (length (built_by g (columns_in c) s)) (cells built.list) ≡ map row_of (built_by g (columns_in c) s)
  rows_built =
      let R = built_by g (columns_in c) s in
      ap (rows wide (length R)) list_built ∙ rows-flatten row_of wide row-wide R (drop (length (flatten row_of R)) (cells before.list))

  -- its list is accepted
  pub shape_built : misshapen (cells built.list) (length (built_by g (columns_in c) s)) (length s) ≡ false
  unfolding misshapen
  shape_built =
      let R = built_by g (columns_in c) s in
      let long = ap length list_built ∙ length-append (flatten row_of R) (drop (length (flatten row_of R)) (cells before.list)) in
      let fits : overfull wide (cells built.list) (length R) ≡ false = le-ltb (room wide (cells built.list)) (length R) (omega (arith, long, length-flatten row_of wide row-wide R)) in
      rw (fits, rows_built, holds-shaped 0 (length s) (map row_of R) (regions-shaped (gram_of g (columns_in c)) s))

  module _ (markers delims : List ℕ) where
    -- by it the items are those that the rules leave
    pub items_built : listed_items g markers delims built.list (length (built_by g (columns_in c) s)) s ≡ sheet_with g (set_of markers) (set_of delims) (built_by g (columns_in c) s) s
    unfolding sheet_of
    items_built = rw (rows_built, region_rows (built_by g (columns_in c) s))

    -- and what the entry by a list does is what the entry by rules promises
    pub sheet_built : (lent after : ListRuns) (r : ℕ) → ListedSheet g markers delims built.list (length (built_by g (columns_in c) s)) s lent after r → SheetBytes g c markers delims s lent after r
    unfolding sheet_answer
    sheet_built lent after r v =
        let R = built_by g (columns_in c) s in
        let p = built_passed R (uneven_columns c) s before built w in
        let items = listed_items g markers delims built.list (length R) s in
        let on = judged_on (cells built.list) (length R) s (filled_answer 20 items lent.list) p.0 false refl (record { answer = sym shape_built }) in
        build_good item_bytes 20 (uneven_columns c) (sheet_with g (set_of markers) (set_of delims) R s) s lent (uneven_columns c) after r p.0 p.1 (record { answer = refl })
        (subst (λ (x : List SheetItem). SheetPoured x lent after r) items_built (rw on at v))
