-- What the fence scanner finds. Assumes nothing.
-- The page: "A fence begins its line, has a run of at least min and at least 1, and no further fence byte on that line. It is closed by
-- the first later line …", "The span ends after the closing line's line end, or at the text's end.", "The scan goes on from the span's
-- end."
use Rattle.std.specs.Prelude.{Bool, true, false, cond, ◌&&◌, List, ℕ, ◌+◌, ltb, length, None, Option, Some}
use Rattle.search.specs.Search.{find, after_run, is, either, holds, first_place, line_start, line_end, after_line}
use Rattle.lines.specs.Fences.{run_count, opens_run, closes_run}
use Rattle.common.specs.Refusals.{Outcome, span_values}
use Rattle.common.specs.Turn.{Turn, go, stop, found, first_turn, all_found}
use Rattle.common.specs.Items.{answer_by, state_by}
use Rattle.common.specs.declared.span.Span.{Span}
use Rattle.fence.specs.declared.FenceIter.{FenceIter}
use Rattle.fence.specs.declared.Turn.{Turn as Told}
use Rattle.fence.specs.declared.Turn.TheVariants.{Go, Stop, Found}

-- a fence: where it starts, and where it ends
abbrev pub Fence : Type 0
Fence = Span

-- a fresh state
abbrev pub fresh : ℕ → ℕ → ℕ → ℕ → ℕ → FenceIter
fresh byte min eol sep tab = record { byte = byte; min = min; eol = eol; sep = sep; tab = tab; pos = 0 }

-- the state at another place
abbrev pub at : FenceIter → ℕ → FenceIter
at g q = record { byte = g.byte; min = g.min; eol = g.eol; sep = g.sep; tab = g.tab; pos = q }

-- the end of the fence byte's run that begins at p: "With a fence byte equal to the line end the run is counted on across lines"
abbrev pub whole_run_end : FenceIter → List ℕ → ℕ → ℕ
whole_run_end g s p = after_run g.byte s p

-- the end of the line that the run ends in, and the place after it
abbrev pub run_line : FenceIter → List ℕ → ℕ → ℕ
run_line g s p = line_end g.eol s (whole_run_end g s p)

abbrev pub after_run_line : FenceIter → List ℕ → ℕ → ℕ
after_run_line g s p = after_line g.eol s (whole_run_end g s p)

-- whether a run of the fence byte begins its line at p
unfoldable pub begins : FenceIter → List ℕ → ℕ → Bool
begins g s p = line_start g.eol s p && holds (is g.byte) s p

-- "A fence begins its line, has a run of at least min and at least 1, and no further fence byte on that line."
unfoldable pub opens : FenceIter → List ℕ → ℕ → Bool
opens g s p = begins g s p && opens_run g.byte g.min s p (whole_run_end g s p) (run_line g s p)

-- "It is closed by the first later line whose run is as long or longer and whose rest is separators or tabs."
unfoldable pub closes : FenceIter → ℕ → List ℕ → ℕ → Bool
closes g count s q = begins g s q && closes_run (either g.sep g.tab) count s q (whole_run_end g s q) (run_line g s q)

-- where a fence's span ends: after the line at q, if one closes it there, else at the text's end
abbrev pub span_end : FenceIter → List ℕ → Bool → ℕ → ℕ
span_end g s true q = after_run_line g s q
span_end g s false q = length s

-- "The span ends after the closing line's line end, or at the text's end."
unfoldable pub close_end : FenceIter → ℕ → List ℕ → ℕ → ℕ
close_end g count s from = span_end g s (ltb (first_place (closes g count s) from (length s)) (length s)) (first_place (closes g count s) from (length s))

-- the fence that opens at p
abbrev pub fence_at : FenceIter → List ℕ → ℕ → Fence
fence_at g s p = record { start = p; end = close_end g (run_count p (whole_run_end g s p)) s (after_run_line g s p) }

-- the next fence from q on
abbrev pub next_at : FenceIter → List ℕ → ℕ → Bool → ℕ → Turn Fence
next_at g s q true p = found (fence_at g s p) (fence_at g s p).end
next_at g s q false p = stop q

unfoldable pub next_fence : FenceIter → List ℕ → ℕ → Turn Fence
next_fence g s q = next_at g s q (ltb (first_place (opens g s) q (length s)) (length s)) (first_place (opens g s) q (length s))

-- all fences of a text: "The scan goes on from the span's end."
unfoldable pub fences : FenceIter → List ℕ → List Fence
fences g s = all_found (next_fence g s) (length s) 0

-- ---- the step, which follows the Rust in where it stays when nothing is left: at the place from which no fence byte was found
-- a line that begins with a run of the fence byte at p
abbrev pub open_line : FenceIter → List ℕ → ℕ → Turn Fence
open_line g s p = cond (opens_run g.byte g.min s p (whole_run_end g s p) (run_line g s p)) (found (fence_at g s p) (fence_at g s p).end) (go (after_run_line g s p))

-- what the fence byte at p, the first from q on, opens: nothing unless it begins its line
abbrev pub open_from : FenceIter → List ℕ → ℕ → ℕ → Turn Fence
open_from g s q p = cond (ltb p (length s)) (cond (line_start g.eol s p) (open_line g s p) (go (p + 1))) (stop q)

-- one turn at q: the next fence byte, and what it opens
unfoldable pub open_turn : FenceIter → List ℕ → ℕ → Turn Fence
open_turn g s q = open_from g s q (find (is g.byte) s q)

-- what the code's turn stands for
abbrev pub view : Told → Turn Fence
view (Go n) = go n
view (Stop v) = stop v
view (Found f) = found f f.end

-- of a whole scan, which comes to something: a fence or none, and the place that it goes on from
abbrev pub rests : Option Fence → ℕ → Turn Fence
rests (Some f) n = found f n
rests None v = stop v

-- what the scan from a state's place comes to
unfoldable pub first_open : FenceIter → List ℕ → Turn Fence
first_open g s = first_turn (open_turn g s) (length s) g.pos

-- "For a scanner: 1, 2."
unfoldable pub answer : FenceIter → List ℕ → Outcome
answer g s = answer_by span_values s g.pos (first_open g s)

-- a refusal hands the state back as it was
unfoldable pub state : FenceIter → List ℕ → FenceIter
state g s = state_by at g s g.pos (first_open g s)
