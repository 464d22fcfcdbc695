-- The shape that an amendment and a work sheet ask of a list, and its regions one by one. Assumes nothing.
-- The page, refusal 5: "a list's stated count is over its room; for an amendment or a work sheet also: regions unsorted, overlapping,
-- empty (end not after start) or past the text".
use Rattle.std.specs.Prelude.{Bool, cond, not, ◌||◌, List, ℕ, ltb}
use Rattle.common.specs.Entry.{rows, room, shaped, wide, overfull}
use Rattle.common.specs.declared.span.Span.{Span}
use Rattle.cover.specs.Cursor.{start_at, stop_at}

-- 5: "a list's stated count is over its room; for an amendment or a work sheet also: regions unsorted, overlapping, empty (end not after
-- start) or past the text", of a text of length len
unfoldable pub misshapen : List ℕ → ℕ → ℕ → Bool
misshapen l n len = overfull wide l n || not (shaped 0 len (rows wide n l))

-- region k of a list; of no bytes where the list has no such row
unfoldable pub region_at : List ℕ → ℕ → Span
region_at l k = cond (ltb k (room wide l)) (record { start = start_at wide l k; end = stop_at wide l k }) (record { start = 0; end = 0 })
