-- What the work sheet of a text by a region list in bytes answers and writes. Assumes nothing.
-- The page: "The work sheet takes a text, the grammar bytes, the marker and delimiter sets and a list, but no rule columns." and
-- "For a work sheet: 1, 5, 3."
use Rattle.std.specs.Prelude.{List, [], ◌∷◌, ℕ, length}
use Rattle.common.specs.Entry.{flatten}
use Rattle.common.specs.Refusals.{given}
use Rattle.common.specs.Sets.{set_of}
use Rattle.common.specs.declared.grammar.Grammar.{Grammar}
use Rattle.feed.specs.declared.item.SheetItem.{SheetItem}
use Rattle.sheet.specs.Sheet.{sheet_of, sheet_judged, sheet_answer}
use Rattle.cells.specs.Bytes.{cells}
use Rattle.cells.specs.Reply.{Replied}
use Rattle.cells.specs.Poured.{ListRuns, Poured}
use Rattle.sheeting.specs.Sheeting.{item_bytes}

-- the items: s, g, the accepted marker and delimiter bytes, and the n regions whose numbers the bytes l are
abbrev pub listed_items : Grammar → List ℕ → List ℕ → List ℕ → ℕ → List ℕ → List SheetItem
listed_items g markers delims l n s = sheet_of g (set_of markers) (set_of delims) (cells l) n s

-- the promise of a work sheet, twenty bytes an item
abbrev pub ListedSheet : Grammar → List ℕ → List ℕ → List ℕ → ℕ → List ℕ → ListRuns → ListRuns → ℕ → Type 0
ListedSheet g markers delims l n s before after r =
    Poured (sheet_answer 20 g (set_of markers) (set_of delims) (cells l) n s before.list) (flatten item_bytes (listed_items g markers delims l n s)) before after r

-- the promise of a count of its items, which needs no room for them
abbrev pub ListedCount : Grammar → List ℕ → List ℕ → List ℕ → ℕ → List ℕ → List ℕ → List ℕ → ℕ → Type 0
ListedCount g markers delims l n s run run' r =
    Replied (sheet_judged (cells l) n s (given (length (listed_items g markers delims l n s) ∷ []))) run run' r
