-- Mission demand 3, stated: of the promises that `build` and `amend` keep, with no acceptance assumed. Its proof is Serves.antt. Assumes nothing.
-- The mission: "Replacing the stretch between two joints of a text, the kept regions, the new bytes' own and the moved ones are exactly those
-- of the edited text built afresh." The page: "mission demand 3 adds that the old list was built from the old text, by the grammar and rules
-- the amendment is given".
use Rattle.std.specs.Prelude.{◌≡◌, false, List, ◌⊎◌, ℕ, ◌-◌, ◌*◌, ◌≤◌, ◌<◌, length, get_or, Ok, Result}
use Rattle.common.specs.Entry.{room, wide}
use Rattle.common.specs.Refusals.{told}
use Rattle.common.specs.declared.grammar.Grammar.{Grammar}
use Rattle.region.specs.Region.{Region, reaches, Listed}
use Rattle.region.specs.Regions.{regions}
use Rattle.rules.specs.Columns.{Columns, unequal, gram_of}
use Rattle.context.specs.Build.{Built}
use Rattle.amend.specs.Amend.{Edit, Joint}
use Rattle.amend.specs.Amended.{list_regions, edited, uses_line_end, Amended}
use Rattle.common.specs.declared.refusal.Refusal.{Refusal}

-- a replacement that old text may follow: it is empty, or it "ends in two line ends" and no region of it, "built alone", is one "reaching its end"
-- (`EndsAtJoint` of Several.antt says it by the test of a joint, as the proof needs it; Serves.antt shows that they are one)
abbrev pub ShutEnd : {T : Type 0} → ℕ → (List ℕ → List (Region T)) → List ℕ → Type 0
ShutEnd eol build r = (length r ≡ 0) ⊎ ((2 ≤ length r) × (get_or r (length r - 1) 0 ≡ eol) × (get_or r (length r - 2) 0 ≡ eol) × (reaches (length r) (build r) ≡ false))

-- what is asked of an edit of a text with a list of regions
pub record Conditions (g : Grammar) (c : Columns) (old : List ℕ) (list : List Listed) (e : Edit) : Type 0 where
  -- the replacement and the edited text are within the limit
  pub replacement : length e.text ≤ 4294967295
  pub finished : length (edited e old) ≤ 4294967295
  -- the cuts are in order and within the text
  pub rising : e.first ≤ e.second
  pub within : e.second ≤ length old
  -- neither the escape nor an inline rule's byte is the line end
  pub apart : uses_line_end g c ≡ false
  -- the first cut is a joint, the second a joint or the text's end
  pub start : Joint g.eol old list e.first
  pub stop : (e.second ≡ length old) ⊎ Joint g.eol old list e.second
  -- where old text follows the replacement
  pub shut : e.second < length old → ShutEnd g.eol (list_regions (gram_of g c)) e.text

-- how many regions a text has, by columns
abbrev pub region_count : Grammar → Columns → List ℕ → ℕ
region_count g c s = length (regions (gram_of g c) s)

-- an amendment has answered r and left `out'` of `out`, building the edited text over `blank` has answered a and left `fresh`: both answer k,
-- every cell of a region is the same in both lists, and over the same run the lists are equal
pub record Agree (k : ℕ) (out out' blank fresh : List ℕ) (r a : Result ℕ Refusal) : Type 0 where
  pub amended : r ≡ Ok k
  pub built : a ≡ Ok k
  pub cells : (i : ℕ) → i < k * wide → get_or fresh i 0 ≡ get_or out' i 0
  pub whole : blank ≡ out → fresh ≡ out'

-- Build the old text; amend its list, of as many regions as the old text has; build the edited text. Where the texts are within the limit, the
-- columns agree, each run has room for its regions and the edit meets the conditions with the old text's own regions, all three
-- answer, and the amended list is the one built afresh.
abbrev pub DemandThree : Type 0
DemandThree =
    (g : Grammar) (c : Columns) (old run l : List ℕ) (e : Edit) (out out' blank fresh : List ℕ) (q r a : Result ℕ Refusal)
    → length old ≤ 4294967295
    → unequal c ≡ false
    → region_count g c old ≤ room wide run
    → Conditions g c old (list_regions (gram_of g c) old) e
    → region_count g c (edited e old) ≤ room wide out
    → region_count g c (edited e old) ≤ room wide blank
    → Built g c old run l (told q)
    → Amended g c old l (region_count g c old) e out out' (told r)
    → Built g c (edited e old) blank fresh (told a)
    → (q ≡ Ok (region_count g c old)) × Agree (region_count g c (edited e old)) out out' blank fresh r a
