-- Lists of entries as runs of numbers: rows of one width, the test that their places are in order, and numbers written into a run. Assumes nothing.
-- The page: "A region list is a lent run of 32-bit numbers", "An item is five numbers", "Success writes the regions from place 0,
-- returns their count and changes nothing beyond them."
use Rattle.std.specs.Prelude.{Bool, true, ◌&&◌, List, [], ◌∷◌, ◌++◌, ℕ, zero, suc, ◌+◌, ◌/◌, ◌≤◌, ◌<◌, leb, ltb, length, get_or, take, drop, set}

-- the numbers of a list of entries, one entry behind the other
abbrev pub flatten : {A : Type 0} → (A → List ℕ) → List A → List ℕ
flatten flat [] = []
flatten flat (a ∷ l) = flat a ++ flatten flat l

-- the first n rows of w numbers each
abbrev pub rows : ℕ → ℕ → List ℕ → List (List ℕ)
rows w zero l = []
rows w (suc n) l = take w l ∷ rows w n (drop w l)

-- "region k has its start at 2k and its exclusive end at 2k+1": how many numbers a region's row has
abbrev pub wide : ℕ
wide = 2

-- the place where a row starts
abbrev pub start_of : List ℕ → ℕ
start_of row = get_or row 0 0

-- the place where a row ends
abbrev pub stop_of : List ℕ → ℕ
stop_of row = get_or row 1 0

-- the number of rows of width w that a run has room for
abbrev pub room : ℕ → List ℕ → ℕ
room w l = length l / w

-- whether a number of such rows is over that
abbrev pub overfull : ℕ → List ℕ → ℕ → Bool
overfull w l n = ltb (room w l) n

-- the test that rows are in order, apart, none of them empty, from `from` on and up to len
abbrev pub shaped : ℕ → ℕ → List (List ℕ) → Bool
shaped from len [] = true
shaped from len (r ∷ l) = leb from (start_of r) && ltb (start_of r) (stop_of r) && leb (stop_of r) len && shaped (stop_of r) len l

-- rows that are in order, apart, none of them empty, from `from` on and up to len
abbrev pub Shaped : ℕ → ℕ → List (List ℕ) → Type 0
Shaped from len [] = Unit {0}
Shaped from len (r ∷ l) = (from ≤ start_of r) × (start_of r < stop_of r) × (stop_of r ≤ len) × Shaped (stop_of r) len l

-- out with l written over its front
abbrev pub over : List ℕ → List ℕ → List ℕ
over l out = l ++ drop (length l) out

-- out with the elements of l set at k, k + 1 and so on; all other places stay as they are
abbrev pub put_at : {A : Type 0} → ℕ → List A → List A → List A
put_at k [] out = out
put_at k (x ∷ l) out = put_at (k + 1) l (set out k x)
