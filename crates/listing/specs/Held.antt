-- Regions and items held as runs of numbers, and the lines of their rows. Assumes nothing.
-- The page: "then `W` for sheet items, with their M or N fields."
use Rattle.std.specs.Prelude.{◌≡◌, List, map, ℕ, ◌*◌, ◌≤◌, length}
use Rattle.common.specs.Entry.{rows, wide}
use Rattle.sheet.specs.Sheet.{five}
use Rattle.listing.specs.Lines.{lines}
use Rattle.listing.specs.Listing.{house_regions, row_fields, house_sheet}
use Rattle.region.specs.Region.{row_of}

-- a run whose first n rows are the text's regions
pub record RegionsIn (s list : List ℕ) (n : ℕ) : Type 0 where
  pub same : rows wide n list ≡ map row_of (house_regions s)
  pub few : n ≤ 4097
  pub long : length list ≡ wide * 4097

-- the lines of its first n rows
unfoldable pub held_lines : List ℕ → ℕ → List ℕ
held_lines list n = lines 82 (λ r. r) (rows wide n list)

-- a run whose first n rows are the items of the text's work sheet
pub record ItemsIn (s list : List ℕ) (n : ℕ) : Type 0 where
  pub same : rows 5 n list ≡ map five (house_sheet s)
  pub few : n ≤ 8193
  pub long : length list ≡ 40965

-- the lines of its first n rows
unfoldable pub filed_lines : List ℕ → ℕ → List ℕ
filed_lines list n = lines 87 row_fields (rows 5 n list)
