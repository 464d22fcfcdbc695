-- Regions and lists of regions: moved, kept before or from a place, reaching a place. Assumes nothing.
-- The page: "region k has its start at 2k and its exclusive end at 2k+1."
use Rattle.std.specs.Prelude.{Bool, true, false, ◌||◌, ◌&&◌, List, [], ◌∷◌, map, ℕ, ◌+◌, ◌≤◌, ◌<◌, ltb, leb}
use Rattle.common.specs.Entry.{start_of, stop_of}
use Rattle.region.specs.declared.Cause.{Cause}
use Rattle.region.specs.declared.Region.{Region as Told}

-- a region: its start, its exclusive end, and what a list says of it besides
pub record Region (T : Type 0) : Type 0 where
  pub start : ℕ
  pub stop : ℕ
  pub tag : T

-- which kind of rule made a region, the index of that rule, and, of a fence, whether a line closed it; true of a pair
pub record Origin : Type 0 where
  pub cause : Cause
  pub index : ℕ
  pub closed : Bool

-- a region with the rule that made it
abbrev pub Caused : Type 0
Caused = Region Origin

-- a region from p up to e that the rule of a kind and an index made
abbrev pub caused : Cause → ℕ → Bool → ℕ → ℕ → Caused
caused k i closed p e = record { start = p; stop = e; tag = record { cause = k; index = i; closed = closed } }

-- a region of which something else is said
abbrev pub retag : {S T : Type 0} → (S → T) → Region S → Region T
retag f r = record { start = r.start; stop = r.stop; tag = f r.tag }

-- what the code's region says
abbrev pub region_of : Told → Caused
region_of r = caused r.cause r.index r.closed r.start r.end

-- both places moved by f; what is said of the region stays
abbrev pub move : {T : Type 0} → (ℕ → ℕ) → Region T → Region T
move f r = record { start = f r.start; stop = f r.stop; tag = r.tag }

-- all regions of a list, moved up by k
abbrev pub up : {T : Type 0} → ℕ → List (Region T) → List (Region T)
up k l = map (move (λ x. k + x)) l

-- whether a region that starts before k ends at k or later
unfoldable pub reaches : {T : Type 0} → ℕ → List (Region T) → Bool
reaches k [] = false
reaches k (r ∷ l) = (ltb r.start k && leb k r.stop) || reaches k l

-- the regions that start before k, and those that start at k or later
unfoldable pub keep_before : {T : Type 0} → ℕ → List (Region T) → List (Region T)
keep_before k [] = []
keep_before k (r ∷ l) = elim (ltb r.start k) [ true ↦ r ∷ keep_before k l | false ↦ keep_before k l ]

unfoldable pub keep_from : {T : Type 0} → ℕ → List (Region T) → List (Region T)
keep_from k [] = []
keep_from k (r ∷ l) = elim (ltb r.start k) [ true ↦ keep_from k l | false ↦ r ∷ keep_from k l ]

-- a list in order, apart, none of it empty, between two places
abbrev pub InOrder : {T : Type 0} → ℕ → ℕ → List (Region T) → Type 0
InOrder from len [] = Unit {0}
InOrder from len (r ∷ l) = (from ≤ r.start) × (r.start < r.stop) × (r.stop ≤ len) × InOrder r.stop len l

-- ---- a region as a list has it
-- what a list says of a region besides its places: nothing
abbrev pub Tag : Type 0
Tag = Unit {0}

-- and of the rule that made it
abbrev pub tag_of : Origin → Tag
tag_of o = tt

abbrev pub Listed : Type 0
Listed = Region Tag

abbrev pub as_listed : Caused → Listed
as_listed r = retag tag_of r

-- "A region list is a lent run of 32-bit numbers: region k has its start at 2k and its exclusive end at 2k+1.": its row, `wide` numbers
abbrev pub row : Listed → List ℕ
row r = r.start ∷ r.stop ∷ []

-- the region that a row says
abbrev pub unrow : List ℕ → Listed
unrow l = record { start = start_of l; stop = stop_of l; tag = tt }

-- the row of a region that a rule made
abbrev pub row_of : Caused → List ℕ
row_of r = row (as_listed r)
