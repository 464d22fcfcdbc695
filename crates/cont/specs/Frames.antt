-- The frames of a text: the markers that lead a line, its depth, where a frame begins and where it ends. Assumes nothing.
-- The page: "A line's depth is its count of leading markers, each taking one optional separator or tab, never above min(`max_nest`, 32).
-- A frame at depth d starts at the d-th marker and ends at the start of the first line of smaller depth, or at the text's end; frames
-- closing together come innermost first. Cap 0 opens nothing."
use Rattle.std.specs.Prelude.{Bool, true, false, cond, ◌&&◌, ◌||◌, List, [], ◌∷◌, ◌++◌, map, ℕ, zero, suc, ◌+◌, ◌-◌, ltb, leb, length, get_or}
use Rattle.search.specs.Search.{is, either, holds, line_start, line_end}
use Rattle.common.specs.Turn.{between}
use Rattle.common.specs.declared.span.Span.{Span}
use Rattle.cont.specs.declared.Framing.{Framing}

-- a frame: where it starts, and where it ends
abbrev pub frame : ℕ → ℕ → Span
frame a b = record { start = a; end = b }

-- whether a marker stands at p, in a line that ends at e
unfoldable pub mark_at : Framing → List ℕ → ℕ → ℕ → Bool
mark_at m s e p = ltb p e && holds (is m.byte) s p

-- the place after the marker at p: "each taking one optional separator or tab"
unfoldable pub after_mark : Framing → List ℕ → ℕ → ℕ → ℕ
after_mark m s e p = cond (ltb (p + 1) e && holds (either m.sep m.tab) s (p + 1)) (p + 2) (p + 1)

-- the places of the markers that stand one behind the other from p on, n at the most
unfoldable pub marks_from : Framing → List ℕ → ℕ → ℕ → ℕ → List ℕ
marks_from m s e zero p = []
marks_from m s e (suc n) p = elim (mark_at m s e p) [ true ↦ p ∷ marks_from m s e n (after_mark m s e p) | false ↦ [] ]

-- the leading markers of the line that begins at a, up to the cap, which a fresh state holds to min(`max_nest`, 32)
unfoldable pub line_marks : Framing → List ℕ → ℕ → List ℕ
line_marks m s a = marks_from m s (line_end m.eol s a) m.cap a

-- "A line's depth is its count of leading markers"
abbrev pub depth : Framing → List ℕ → ℕ → ℕ
depth m s a = length (line_marks m s a)

-- the place of the d-th marker of the line that begins at a
abbrev pub marker : Framing → List ℕ → ℕ → ℕ → ℕ
marker m s d a = get_or (line_marks m s a) (d - 1) 0

-- what there is, or x where there is nothing
abbrev pub or_else : List ℕ → ℕ → List ℕ
or_else [] x = x ∷ []
or_else (y ∷ l) x = y ∷ l

-- where the frame at depth d starts that is open just before place n, if there is one: "A frame at depth d starts at the d-th marker", of the first of the lines that reach up to n and are all of that depth or more
unfoldable pub open_start : Framing → List ℕ → ℕ → ℕ → List ℕ
open_start m s d zero = []
open_start m s d (suc a) =
    elim (line_start m.eol s a) [ true ↦ elim (ltb (depth m s a) d) [ true ↦ [] | false ↦ or_else (open_start m s d a) (marker m s d a) ] | false ↦ open_start m s d a ]

-- whether a frame at depth d that is open just before n ends there: "ends at the start of the first line of smaller depth, or at the text's end"
abbrev pub frame_ends : Framing → List ℕ → ℕ → ℕ → Bool
frame_ends m s d n = leb (length s) n || (line_start m.eol s n && ltb (depth m s n) d)

-- the frames at depth d and less that end at n: "frames closing together come innermost first"
unfoldable pub ending : Framing → List ℕ → ℕ → ℕ → List Span
ending m s n zero = []
ending m s n (suc d) = cond (frame_ends m s (suc d) n) (map (λ x. frame x n) (open_start m s (suc d) n)) [] ++ ending m s n d

-- all frames of a text, in the order of their ends
unfoldable pub frames : Framing → List ℕ → List Span
frames m s = between (λ n. ending m s n m.cap) 0 (length s + 1)
