-- What the code's turns and answers say. Assumes nothing.
-- The page: "For an answer that is an enum, a definition gives this paper's number and values for each of its cases".
use Rattle.std.specs.Prelude.{List, [], ◌∷◌, ℕ, None, Option, Some}
use Rattle.common.specs.Turn.{Turn, go, stop, found}
use Rattle.lines.specs.declared.fence_tests.Hit.{Hit}
use Rattle.lines.specs.declared.fence_tests.Hit.TheVariants as hit
use Rattle.region.specs.Region.{Caused, region_of}
use Rattle.region.specs.Sight.{Sight, turned, lost}
use Rattle.region.specs.declared.pairs.PairTurn.{PairTurn}
use Rattle.region.specs.declared.pairs.PairTurn.TheVariants as pair_turn
use Rattle.region.specs.declared.Turn.{Turn as Told}
use Rattle.region.specs.declared.Turn.TheVariants as told
use Rattle.region.specs.declared.Region.{Region}

-- a turn of a close search
abbrev pub view_pair : PairTurn → Turn ℕ
view_pair (pair_turn.Go n) = go n
view_pair (pair_turn.Close t) = found t t
view_pair (pair_turn.End u) = stop u

-- a close search's answer: the end of the close, or where the paragraph ended
abbrev pub view_hit : Hit → Turn ℕ
view_hit (hit.At t) = found t t
view_hit (hit.End u) = stop u

-- a turn of the scan for regions
abbrev pub view_turn : Told → Sight
view_turn (told.Go n) = turned (go n)
view_turn (told.Stop v) = turned (stop v)
view_turn (told.Made r n) = turned (found (region_of r) n)
view_turn (told.Lost b r u) = lost b r u

-- a region and where the scan goes on after it
pub record FoundRegion : Type 0 where
  pub region : Caused
  pub next : ℕ

-- the next region, if there is one
abbrev pub view_next : Option (Region × ℕ) → List FoundRegion
view_next (Some (r, n)) = record { region = region_of r; next = n } ∷ []
view_next None = []

abbrev pub found_region : Turn Caused → List FoundRegion
found_region (go n) = []
found_region (stop v) = []
found_region (found r n) = record { region = r; next = n } ∷ []
