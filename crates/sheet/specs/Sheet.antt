-- The work sheet of a text: what it holds, and what making one answers and writes. Assumes nothing.
-- The page: "It holds the marker and numbered items, both scanned from place 0 … by rising content start, the marker item first where two
-- are equal." and "For a work sheet: 1, 5, 3."; those are left out whose tested byte is inside a region (request 2, `tested_place`).
use Rattle.std.specs.Prelude.{◌≡◌, Bool, true, false, ◌||◌, List, [], ◌∷◌, ℕ, length}
use Rattle.common.specs.Entry.{flatten, rows, wide}
use Rattle.common.specs.Lists.{filled_answer, filled_by}
use Rattle.common.specs.Refusals.{Outcome, refuse, too_long}
use Rattle.common.specs.declared.grammar.Grammar.{Grammar}
use Rattle.feed.specs.Items.{mark_items, numbered_items, merge, tested_place}
use Rattle.cover.specs.Cursor.{covers}
use Rattle.cover.specs.Shape.{misshapen}
use Rattle.feed.specs.declared.item.SheetItem.{SheetItem}

-- ---- items
-- "An item is five numbers: start, end, kind (0 marker, 1 numbered), accepted byte, number (0 for a marker)."
abbrev pub five : SheetItem → List ℕ
five i = i.start ∷ i.end ∷ i.kind ∷ i.byte ∷ i.number ∷ []

-- ---- those that are shown
-- whether a place is "inside a region"
unfoldable pub inside : List (List ℕ) → ℕ → Bool
inside [] p = false
inside (r ∷ l) p = covers p r || inside l p

-- the items whose tested byte "isn't inside a region"
unfoldable pub outside : List (List ℕ) → List SheetItem → List SheetItem
outside regions [] = []
outside regions (i ∷ l) = elim (inside regions (tested_place i)) [ true ↦ outside regions l | false ↦ i ∷ outside regions l ]

-- ---- the sheet
-- "The work sheet takes a text, the grammar bytes, the marker and delimiter sets and a list": s, g, the sets, and the n regions of l
unfoldable pub sheet_of : Grammar → List Bool → List Bool → List ℕ → ℕ → List ℕ → List SheetItem
sheet_of g markers delims l n s = outside (rows wide n l) (merge (mark_items g markers s) (numbered_items g delims s))

-- "For a work sheet: 1, 5, 3.": the two that the text and the list decide, else what follows
unfoldable pub sheet_judged : List ℕ → ℕ → List ℕ → Outcome → Outcome
sheet_judged l n s o = refuse 1 (too_long s) (refuse 5 (misshapen l n (length s)) o)

-- and the last, of items that are w places wide; of numbers it is 5: "Its room is a fifth of the run, rounded down."
unfoldable pub sheet_answer : ℕ → Grammar → List Bool → List Bool → List ℕ → ℕ → List ℕ → List ℕ → Outcome
sheet_answer w g markers delims l n s out = sheet_judged l n s (filled_answer w (sheet_of g markers delims l n s) out)

-- the run that is left; a refusal changes nothing
unfoldable pub sheet_list : Grammar → List Bool → List Bool → List ℕ → ℕ → List ℕ → List ℕ → List ℕ
sheet_list g markers delims l n s out =
    filled_by (sheet_answer 5 g markers delims l n s out) (flatten five (sheet_of g markers delims l n s)) out

-- the promise of a work sheet: its answer, and the run that it leaves
pub record Sheeted (g : Grammar) (markers delims : List Bool) (l : List ℕ) (n : ℕ) (s out out' : List ℕ) (o : Outcome) : Type 0 where
  pub answer : o ≡ sheet_answer 5 g markers delims l n s out
  pub list : out' ≡ sheet_list g markers delims l n s out
