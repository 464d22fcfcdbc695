-- Where a paragraph ends, and the next of a byte in it. Assumes nothing.
-- The page: "`next_in_paragraph`: crosses one line end; stops at the end of input, at an empty line, or where the entered line opens a
-- fence. A byte equal to the line end is never found by it."
use Rattle.std.specs.Prelude.{Bool, true, false, not, ◌&&◌, ◌||◌, List, ℕ, ◌+◌, eqb, ltb, leb, length}
use Rattle.search.specs.Search.{find, is, holds, first_place}
use Rattle.lines.specs.declared.fence_tests.Hit.{Hit}
use Rattle.lines.specs.declared.fence_tests.Hit.TheVariants.{At, End}

-- whether a paragraph ends with the line end at q: "at the end of input, at an empty line, or where the entered line opens a fence"
unfoldable pub ends_at : ℕ → (ℕ → Bool) → List ℕ → ℕ → Bool
ends_at eol opens s q = holds (is eol) s q && (leb (length s) (q + 1) || (holds (is eol) s (q + 1) || opens (q + 1)))

-- where the paragraph of a place ends: the first such line end at or after it, else the text's end
unfoldable pub paragraph_end : ℕ → (ℕ → Bool) → List ℕ → ℕ → ℕ
paragraph_end eol opens s from = first_place (ends_at eol opens s) from (length s)

-- found at q, or not before the paragraph's end u
abbrev pub hit_at : Bool → ℕ → ℕ → Hit
hit_at true q u = At q
hit_at false q u = End u

-- the next x in the paragraph, else where the paragraph ends; "A byte equal to the line end is never found by it."
unfoldable pub next_in : ℕ → (ℕ → Bool) → List ℕ → ℕ → ℕ → Hit
next_in eol opens s x from =
    hit_at (not (eqb x eol) && ltb (find (is x) s from) (paragraph_end eol opens s from)) (find (is x) s from) (paragraph_end eol opens s from)
