-- The step of the scanner of frames, after cont.rs: what it answers, and the whole state after it. Assumes nothing.
-- The page: "each step takes a state and gives the answer with the next state. State fields follow the Rust's.", and refusal 2.
use Rattle.std.specs.Prelude.{Bool, cond, ◌||◌, List, [], ◌∷◌, ℕ, zero, suc, ◌+◌, ◌-◌, min, ltb, length, get_or, drop, replicate}
use Rattle.search.specs.Search.{find, is, holds, line_start, line_end, after_line}
use Rattle.common.specs.Refusals.{Outcome, given, leaves, span_values}
use Rattle.common.specs.Entry.{put_at}
use Rattle.common.specs.Items.{unless_refused}
use Rattle.common.specs.Turn.{Step, yields, ends}
use Rattle.common.specs.declared.span.Span.{Span}
use Rattle.cont.specs.declared.Framing.{Framing}
use Rattle.cont.specs.declared.ContIter.{ContIter}
use Rattle.cont.specs.Frames.{frame, marks_from, line_marks}

-- a fresh state: "min(`max_nest`, 32)"
abbrev pub fresh : ℕ → ℕ → ℕ → ℕ → ℕ → ContIter
fresh byte eol sep tab nest =
    record {
      byte = byte;
      eol = eol;
      sep = sep;
      tab = tab;
      cap = min nest 32;
      pos = 0;
      «open» = replicate 32 0;
      open_len = 0;
      pending = replicate 32 (frame 0 0);
      pending_len = 0;
      pending_idx = 0;
    }

-- what a state takes for a marker, and its cap
abbrev pub framing_of : ContIter → Framing
framing_of g = record { byte = g.byte; eol = g.eol; sep = g.sep; tab = g.tab; cap = g.cap }

-- where a scan stands: its place, and the cells of `open` with the count of frames that are open in them, outermost first
pub record Stand : Type 0 where
  pub pos : ℕ
  pub cells : List ℕ
  pub count : ℕ

abbrev pub stand : ℕ → List ℕ → ℕ → Stand
stand q o n = record { pos = q; cells = o; count = n }

-- the k frames from depth `from` on that start in the cells o, closed at e, innermost first
abbrev pub closed_frames : List ℕ → ℕ → ℕ → ℕ → List Span
closed_frames o e from zero = []
closed_frames o e from (suc k) = frame (get_or o (from + k) 0) e ∷ closed_frames o e from k

-- a turn of the scan: on, with nothing closed; frames closed; or nothing left
pub data FrameTurn : Type 0 where
  go : Stand → FrameTurn
  close : List Span → Stand → FrameTurn
  stop : Stand → FrameTurn

-- how many of n open frames have their marker on the line that begins at p
abbrev pub kept : Framing → List ℕ → ℕ → ℕ → ℕ
kept m s p n = length (marks_from m s (line_end m.eol s p) n p)

-- the markers of that line behind those of n open frames: they open new ones
abbrev pub new_marks : Framing → List ℕ → ℕ → ℕ → List ℕ
new_marks m s p n = drop n (line_marks m s p)

-- of n frames open in the cells o those from depth k on closed at the start of the line at p
abbrev pub close_from : Framing → List ℕ → ℕ → List ℕ → ℕ → ℕ → FrameTurn
close_from m s p o n k = close (closed_frames o p k (n - k)) (stand (after_line m.eol s p) o k)

-- new frames behind them, at the places of l
abbrev pub open_with : Framing → List ℕ → ℕ → List ℕ → ℕ → List ℕ → FrameTurn
open_with m s p o n l = go (stand (after_line m.eol s p) (put_at n l o) (n + length l))

-- a line that begins with a marker at p, with n frames open in the cells o: from the first that lacks its marker they close at the line's start; where none does, further markers open new ones
unfoldable pub turn_on_line : Framing → List ℕ → ℕ → List ℕ → ℕ → FrameTurn
turn_on_line m s p o n = cond (ltb (kept m s p n) n) (close_from m s p o n (kept m s p n)) (open_with m s p o n (new_marks m s p n))

-- a turn at q with n frames open: the text's end closes them; the place counts as a line's start, and a line without a marker closes them all
abbrev pub turn_with_open : Framing → List ℕ → ℕ → List ℕ → ℕ → FrameTurn
turn_with_open m s q o n =
    cond (ltb q (length s))
    (cond (holds (is m.byte) s q) (turn_on_line m s q o n) (close (closed_frames o q 0 n) (stand (find (is m.byte) s q) o 0)))
    (close (closed_frames o (length s) 0 n) (stand q o 0))

-- a turn at q with none open: the next marker byte, at p, counts where it begins its line
abbrev pub turn_with_none : Framing → List ℕ → ℕ → List ℕ → ℕ → ℕ → FrameTurn
turn_with_none m s q o n p = cond (ltb p (length s)) (cond (line_start m.eol s p) (turn_on_line m s p o n) (go (stand (p + 1) o n))) (stop (stand q o n))

-- the turn of a scan that stands at t
unfoldable pub next_turn : Framing → List ℕ → Stand → FrameTurn
next_turn m s t =
    cond (ltb 0 t.count) (turn_with_open m s t.pos t.cells t.count) (turn_with_none m s t.pos t.cells t.count (find (is m.byte) s t.pos))

-- the frames that close next, and where the scan then stands; none where nothing is left
pub record Shut : Type 0 where
  pub closed : List Span
  pub left : Stand

abbrev pub shut : List Span → Stand → Shut
shut l t = record { closed = l; left = t }

-- what a turn closes, or what k says of where it only goes on from
abbrev pub then_shut : (Stand → Shut) → FrameTurn → Shut
then_shut k (go t) = k t
then_shut k (close l t) = shut l t
then_shut k (stop t) = shut [] t

-- the first of at most f turns that does not only go on
unfoldable pub shut_within : Framing → List ℕ → ℕ → Stand → Shut
shut_within m s zero t = shut [] t
shut_within m s (suc f) t = then_shut (shut_within m s f) (next_turn m s t)

-- the frames that close next from t on: each turn that only goes on moves on in the text
abbrev pub first_shut : Framing → List ℕ → Stand → Shut
first_shut m s t = shut_within m s (suc (length s)) t

-- ---- the state
-- where a state's scan stands
abbrev pub standing : ContIter → Stand
standing g = stand g.pos g.«open» g.open_len

-- what a step may change of a state: its place, `open` with its count, and `pending` with its count and index
pub record Changes : Type 0 where
  pub pos : ℕ
  pub «open» : List ℕ
  pub open_len : ℕ
  pub pending : List Span
  pub pending_len : ℕ
  pub pending_idx : ℕ

-- the state with these changed
abbrev pub changed : ContIter → Changes → ContIter
changed g c =
    record {
      byte = g.byte;
      eol = g.eol;
      sep = g.sep;
      tab = g.tab;
      cap = g.cap;
      pos = c.pos;
      «open» = c.«open»;
      open_len = c.open_len;
      pending = c.pending;
      pending_len = c.pending_len;
      pending_idx = c.pending_idx;
    }

-- the state with one pending frame more taken
abbrev pub frame_taken : ContIter → ContIter
frame_taken g =
    changed g
    (record {
      pos = g.pos;
      «open» = g.«open»;
      open_len = g.open_len;
      pending = g.pending;
      pending_len = g.pending_len;
      pending_idx = g.pending_idx + 1;
    })

-- the state with the closed frames pending
abbrev pub refilled : ContIter → Shut → ContIter
refilled g r =
    changed g
    (record {
      pos = r.left.pos;
      «open» = r.left.cells;
      open_len = r.left.count;
      pending = put_at 0 r.closed g.pending;
      pending_len = length r.closed;
      pending_idx = 0;
    })

-- the step that takes the next pending frame
abbrev pub drained : ContIter → Step Span ContIter
drained g = yields (get_or g.pending g.pending_idx (frame 0 0)) (frame_taken g)

-- that step, or e where none is pending
abbrev pub drained_or : ContIter → Step Span ContIter → Step Span ContIter
drained_or g e = cond (ltb g.pending_idx g.pending_len) (drained g) e

-- that step, or the end where none is pending
abbrev pub drained_or_end : ContIter → Step Span ContIter
drained_or_end g = drained_or g (ends g)

-- the step of a state that is served: a pending frame goes first; where none is pending, the scan closes frames, and the first of these goes
unfoldable pub stepped : ContIter → List ℕ → Step Span ContIter
stepped g s = drained_or g (drained_or_end (refilled g (first_shut (framing_of g) s (standing g))))

-- what a step answers: the frame, or none
abbrev pub span_of : Step Span ContIter → Outcome
span_of (yields f g) = given (span_values f)
span_of (ends g) = given []

-- the state after it
abbrev pub state_of : Step Span ContIter → ContIter
state_of (yields f g) = g
state_of (ends g) = g

-- the text's length and the numbers of a state, which refusal 2 holds against each other
pub record Counts : Type 0 where
  pub len : ℕ
  pub pos : ℕ
  pub cap : ℕ
  pub open_len : ℕ
  pub pending_len : ℕ
  pub pending_idx : ℕ

-- 2: "a scanner state's position, is past the text, or in `ContIter` the cap, open count or pending count is over 32, or the pending index is over the pending count"
unfoldable pub misplaced_by : Counts → Bool
misplaced_by c = ltb c.len c.pos || ltb 32 c.cap || ltb 32 c.open_len || ltb 32 c.pending_len || ltb c.pending_len c.pending_idx

-- the same of a state and a text
abbrev pub misplaced : ContIter → List ℕ → Bool
misplaced g s =
    misplaced_by
    (record {
      len = length s;
      pos = g.pos;
      cap = g.cap;
      open_len = g.open_len;
      pending_len = g.pending_len;
      pending_idx = g.pending_idx;
    })

-- "For a scanner: 1, 2."
unfoldable pub answer : ContIter → List ℕ → Outcome
answer g s = unless_refused s (misplaced g s) (span_of (stepped g s))

-- a refusal hands the state back as it was
unfoldable pub state : ContIter → List ℕ → ContIter
state g s = leaves (unless_refused s (misplaced g s) (given [])) g (state_of (stepped g s))
