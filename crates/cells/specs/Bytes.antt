-- Numbers as four bytes, low byte first, and runs whose numbers keep to limits. Assumes nothing.
-- The page: "there each number of a list is four bytes, low byte first."
use Rattle.std.specs.Prelude.{Bool, true, false, ◌&&◌, List, [], ◌∷◌, map, ℕ, ◌+◌, ◌*◌, ◌/◌, ◌%◌, eqb, leb, length, get_or}
use Rattle.common.specs.Entry.{rows, wide}

-- "each number of a list is four bytes, low byte first"
abbrev pub four : ℕ → List ℕ
four n = n % 256 ∷ n / 256 % 256 ∷ n / 65536 % 256 ∷ n / 16777216 % 256 ∷ []

-- the number that a row of four bytes is
abbrev pub from_four : List ℕ → ℕ
from_four l = get_or l 0 0 + get_or l 1 0 * 256 + get_or l 2 0 * 65536 + get_or l 3 0 * 16777216

-- the numbers of a byte run; bytes behind the last four make none
unfoldable pub cells : List ℕ → List ℕ
cells l = map from_four (rows 4 (length l / 4) l)

-- whether a run is four bytes for each element of a list
abbrev pub fourfold : List ℕ → List ℕ → Bool
fourfold run l = eqb (length run) (length l * 4)

-- how many bytes a region's row has
abbrev pub row_bytes : ℕ
row_bytes = wide * 4

-- whether there is one number for each limit, and none is over its limit
unfoldable pub within : List ℕ → List ℕ → Bool
within [] [] = true
within [] (x ∷ xs) = false
within (m ∷ ms) [] = false
within (m ∷ ms) (x ∷ xs) = leb x m && within ms xs

-- whether a run holds a state: whole cells, one for each limit, and none over its limit; a byte's is 255, a flag's 1
unfoldable pub readable : List ℕ → List ℕ → Bool
readable limits run = fourfold run limits && within limits (cells run)
