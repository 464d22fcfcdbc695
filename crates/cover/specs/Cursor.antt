-- The cursor over a list of regions: what it answers of a place, and the index that it goes on from. Assumes nothing.
-- The page: "The cursor skips regions whose end is at or before the place, never goes back, and gives the next region's end if its start
-- is at or before the place." and "For a cursor: 5."
use Rattle.std.specs.Prelude.{◌≡◌, Bool, true, false, cond, ◌&&◌, List, [], ◌∷◌, ℕ, ◌+◌, ◌*◌, ◌≤◌, ◌<◌, ltb, leb, get_or}
use Rattle.search.specs.Search.{first_place}
use Rattle.common.specs.Entry.{wide, start_of, stop_of, overfull}
use Rattle.common.specs.Refusals.{Outcome, given, refuse, leaves, told_found}
use Rattle.cover.specs.declared.cursor.CoverPair.{CoverPair}

-- ---- a list of entries of w numbers each, of which the first two are a region
-- "region k has its start at 2k and its exclusive end at 2k+1", at any width
abbrev pub start_at : ℕ → List ℕ → ℕ → ℕ
start_at w l k = get_or l (k * w) 0

abbrev pub stop_at : ℕ → List ℕ → ℕ → ℕ
stop_at w l k = get_or l (k * w + 1) 0

-- whether region k's end is after the place
abbrev pub ends_after : ℕ → List ℕ → ℕ → ℕ → Bool
ends_after w l place k = ltb place (stop_at w l k)

-- "The cursor skips regions whose end is at or before the place, never goes back": from an index on, up to the count
unfoldable pub passed : ℕ → List ℕ → ℕ → ℕ → ℕ → ℕ
passed w l count index place = first_place (ends_after w l place) index count

-- "and gives the next region's end if its start is at or before the place"; "an index past the count gives none"
unfoldable pub end_at : ℕ → List ℕ → ℕ → ℕ → ℕ → List ℕ
end_at w l count k place = cond (ltb k count && leb (start_at w l k) place) (stop_at w l k ∷ []) []

-- "For a cursor: 5.", "a list's stated count is over its room"; else an end, or none
unfoldable pub cover_answer : ℕ → List ℕ → ℕ → ℕ → ℕ → Outcome
cover_answer w l count index place = refuse 5 (overfull w l count) (given (end_at w l count (passed w l count index place) place))

-- the next index; a refused cursor keeps its value
unfoldable pub cover_next : ℕ → List ℕ → ℕ → ℕ → ℕ → ℕ
cover_next w l count index place = leaves (cover_answer w l count index place) index (passed w l count index place)

-- ---- plain coverage
-- whether a region holds a place: its start is at or before it, its end after it
abbrev pub covers : ℕ → List ℕ → Bool
covers place r = leb (start_of r) place && ltb place (stop_of r)

-- "plain coverage": the ends of the regions that hold a place, which in a list in order is one at the most
unfoldable pub coverage : ℕ → List (List ℕ) → List ℕ
coverage place [] = []
coverage place (r ∷ l) = elim (covers place r) [ true ↦ stop_of r ∷ coverage place l | false ↦ coverage place l ]

-- ---- a run of queries: each goes on from the index that the one before it left
unfoldable pub cover_run : ℕ → List ℕ → ℕ → ℕ → List ℕ → List Outcome
cover_run w l count index [] = []
cover_run w l count index (p ∷ ps) = cover_answer w l count index p ∷ cover_run w l count (cover_next w l count index p) ps

-- two queries: what they answer is a run, and the index behind it
pub record CoveredBoth (l : List ℕ) (count index first second : ℕ) (r : CoverPair) : Type 0 where
  pub answers : told_found r.first ∷ told_found r.second ∷ [] ≡ cover_run wide l count index (first ∷ second ∷ [])
  pub next : r.index ≡ cover_next wide l count (cover_next wide l count index first) second

-- "places that never fall", none of them before `low`
abbrev pub Rising : ℕ → List ℕ → Type 0
Rising low [] = Unit {0}
Rising low (p ∷ ps) = (low ≤ p) × Rising p ps

-- what a run of queries knows: an index all of whose regions before it end at or before a place
pub record Ended (w : ℕ) (l : List ℕ) (count index place : ℕ) : Type 0 where
  pub within : index ≤ count
  pub before : (j : ℕ) → j < index → stop_at w l j ≤ place
