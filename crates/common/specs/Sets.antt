-- Byte sets, the house classes, and the probe of a set. Assumes nothing.
-- The page: "A set starts as 256 false entries and gains the accepted bytes", "1 for a marker, 2 for a delimiter, 4 for a digit, 0
-- otherwise", "up to three accepted bytes in rising order, unused places 0, else none".
use Rattle.std.specs.Prelude.{◌≡◌, Bool, true, false, cond, List, [], ◌∷◌, ℕ, zero, suc, ◌<◌, eqb, leb, length, get_or}
use Rattle.search.specs.Search.{one_of, digit}
use Rattle.common.specs.Rules.{tabulate}
use Rattle.common.specs.declared.sets.Probe.{Probe}

-- a flag as a number
abbrev pub as_flag : Bool → ℕ
as_flag on = cond on 1 0

-- a byte's place in a table of 256 entries: the byte itself
pub record Index (b r : ℕ) : Type 0 where
  pub same : r ≡ b
  pub below : r < 256

-- "A set starts as 256 false entries and gains the accepted bytes": entry k says whether k is accepted
abbrev pub set_of : List ℕ → List Bool
set_of accepted = tabulate (one_of accepted) 256 0

-- "markers `- * +`; delimiters `. )`"
abbrev pub marker_bytes : List ℕ
marker_bytes = 45 ∷ 42 ∷ 43 ∷ []

abbrev pub delimiter_bytes : List ℕ
delimiter_bytes = 46 ∷ 41 ∷ []

-- whether a byte is one, and the set of them
abbrev pub is_marker : ℕ → Bool
is_marker = one_of marker_bytes

abbrev pub is_delimiter : ℕ → Bool
is_delimiter = one_of delimiter_bytes

abbrev pub house_markers : List Bool
house_markers = set_of marker_bytes

abbrev pub house_delims : List Bool
house_delims = set_of delimiter_bytes

-- "1 for a marker, 2 for a delimiter, 4 for a digit, 0 otherwise"
abbrev pub class_of : ℕ → ℕ
class_of b = cond (is_marker b) 1 (cond (is_delimiter b) 2 (cond (digit b) 4 0))

-- the set of the bytes of a class
abbrev pub class_set : ℕ → List Bool
class_set class = tabulate (λ b. eqb (class_of b) class) 256 0

-- the bytes that a set accepts, of n from b on, in rising order
unfoldable pub accepted_from : List Bool → ℕ → ℕ → List ℕ
accepted_from set zero b = []
accepted_from set (suc n) b = elim (get_or set b false) [ true ↦ b ∷ accepted_from set n (suc b) | false ↦ accepted_from set n (suc b) ]

abbrev pub accepted : List Bool → List ℕ
accepted set = accepted_from set 256 0

-- a list's first n numbers, unused places 0
abbrev pub padded : ℕ → List ℕ → List ℕ
padded zero l = []
padded (suc n) [] = 0 ∷ padded n []
padded (suc n) (x ∷ l) = x ∷ padded n l

-- "up to three accepted bytes in rising order, unused places 0, else none; a state made then holds the first three, count 0 and the
-- flag off"
abbrev pub probe_of : List ℕ → Probe
probe_of l = record { needles = padded 3 l; nn = cond (leb (length l) 3) (length l) 0; streaming = leb (length l) 3 }

abbrev pub probe : List Bool → Probe
probe set = probe_of (accepted set)
