-- The lines of a text: where each begins. Assumes nothing.
-- Request 1: "Line 1 always exists, and a line end with a byte after it starts the next."
use Rattle.std.specs.Prelude.{cond, List, [], ◌∷◌, ℕ, zero, suc, length, take, drop}
use Rattle.search.specs.Search.{line_start}
use Rattle.common.specs.Turn.{between}

-- the place itself where a line begins there, just after a line end; else none
abbrev pub start_here : ℕ → List ℕ → ℕ → List ℕ
start_here eol s k = cond (line_start eol s k) (k ∷ []) []

-- a line's start a, and those of all lines after it: "a line end with a byte after it starts the next"
unfoldable pub starts_from : ℕ → List ℕ → ℕ → List ℕ
starts_from eol s a = a ∷ between (start_here eol s) (suc a) (length s)

-- where the lines begin: "Line 1 always exists"
abbrev pub line_starts : ℕ → List ℕ → List ℕ
line_starts eol s = starts_from eol s 0

-- where a line begins, by its number from 1 on; none where it doesn't exist
unfoldable pub line_at : ℕ → List ℕ → ℕ → List ℕ
line_at eol s zero = []
line_at eol s (suc k) = take 1 (drop k (line_starts eol s))
