-- What the cursor's entry answers. Assumes nothing.
-- The page: "The cursor skips regions whose end is at or before the place, never goes back, and gives the next region's end if its start
-- is at or before the place."
use Rattle.std.specs.Prelude.{cond, List, [], ◌∷◌, ℕ}
use Rattle.common.specs.Refusals.{Outcome, served}
use Rattle.cover.specs.Cursor.{cover_answer, cover_next}
use Rattle.cells.specs.Bytes.{cells}
use Rattle.common.specs.Entry.{wide}

-- an answer's values behind an index; a refusal has none
abbrev pub behind : ℕ → Outcome → Outcome
behind i o = record { number = o.number; values = cond (served o) (i ∷ o.values) [] }

-- the next index, and the end or none, over the list that a byte run holds
unfoldable pub covered : List ℕ → ℕ → ℕ → ℕ → Outcome
covered list count index place = behind (cover_next wide (cells list) count index place) (cover_answer wide (cells list) count index place)
