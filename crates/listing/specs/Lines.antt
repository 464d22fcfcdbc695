-- Lines of fields. Assumes nothing.
-- The page: "Lines are fields parted by tabs, each ended by byte 10" and "Bytes are decimal."
use Rattle.std.specs.Prelude.{List, [], ◌∷◌, ◌++◌, ℕ}
use Rattle.decimal.specs.Decimal.{decimal}
use Rattle.common.specs.Entry.{flatten}

-- "Lines are fields parted by tabs, each ended by byte 10"
unfoldable pub field : ℕ → List ℕ
field n = 9 ∷ decimal n

abbrev pub fields : List ℕ → List ℕ
fields ns = flatten field ns

abbrev pub line : ℕ → List ℕ → List ℕ
line letter ns = letter ∷ (fields ns ++ (10 ∷ []))

-- a line for each thing of a list, with its fields
abbrev pub lines : {A : Type 0} → ℕ → (A → List ℕ) → List A → List ℕ
lines letter row l = flatten (λ a. line letter (row a)) l
