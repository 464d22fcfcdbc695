-- What building answers and writes. Assumes nothing.
-- The page: "For building: 1, 6, 3." and "Success writes the regions from place 0, returns their count and changes nothing beyond them."
use Rattle.std.specs.Prelude.{◌≡◌, List, ℕ}
use Rattle.common.specs.Entry.{flatten, wide}
use Rattle.common.specs.Lists.{build_answer, filled_by}
use Rattle.common.specs.Refusals.{Outcome}
use Rattle.common.specs.declared.grammar.Grammar.{Grammar}
use Rattle.region.specs.Region.{row_of}
use Rattle.region.specs.Regions.{built_by}
use Rattle.rules.specs.Columns.{Columns, unequal}

-- ---- "For building: 1, 6, 3."
unfoldable pub built_answer : Grammar → Columns → List ℕ → List ℕ → Outcome
built_answer g c s out = build_answer wide (unequal c) (built_by g c s) s out

-- the list that is left; a refusal changes nothing
unfoldable pub built_list : Grammar → Columns → List ℕ → List ℕ → List ℕ
built_list g c s out = filled_by (built_answer g c s out) (flatten row_of (built_by g c s)) out

-- the promise of building: its answer, and the list that it leaves
pub record Built (g : Grammar) (c : Columns) (s out out' : List ℕ) (o : Outcome) : Type 0 where
  pub answer : o ≡ built_answer g c s out
  pub list : out' ≡ built_list g c s out
