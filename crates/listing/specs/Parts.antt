-- A listing in the parts that the functions put, one behind the other. Assumes nothing.
-- The page's sentence stands in Listing.antt; here it is in parts.
use Rattle.std.specs.Prelude.{◌≡◌, List, ◌++◌, ℕ}
use Rattle.listing.specs.Listing.{fence_lines_of, frame_lines, marker_lines, numbered_lines, sheet_lines}

-- a text's lines in two parts
pub record Parts (whole first second : List ℕ → List ℕ) : Type 0 where
  pub same : (s : List ℕ) → whole s ≡ first s ++ second s

-- the lines of both parts
unfoldable pub both_lines : (List ℕ → List ℕ) → (List ℕ → List ℕ) → List ℕ → List ℕ
both_lines first second s = first s ++ second s

-- fences of both bytes
abbrev pub fence_lines : List ℕ → List ℕ
fence_lines = both_lines (fence_lines_of 96) (fence_lines_of 126)

-- fences and frames
abbrev pub span_lines : List ℕ → List ℕ
span_lines = both_lines fence_lines frame_lines

-- items of both kinds
abbrev pub item_lines : List ℕ → List ℕ
item_lines = both_lines marker_lines numbered_lines

-- the lines of all scanners
abbrev pub scan_lines : List ℕ → List ℕ
scan_lines = both_lines span_lines item_lines

-- what stands behind the regions
abbrev pub later_lines : List ℕ → List ℕ
later_lines = both_lines scan_lines sheet_lines
