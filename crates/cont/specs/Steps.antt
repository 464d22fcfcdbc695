-- What the functions of the scanner promise, and the step that a run takes. Assumes nothing.
-- The page's sentences stand in Frames.antt and Cont.antt; here is what the functions promise.
use Rattle.std.specs.Prelude.{◌≡◌, List, ℕ, ◌+◌, ◌-◌, ◌≤◌, ◌<◌, length, drop}
use Rattle.search.specs.Promise.{Steps}
use Rattle.common.specs.Refusals.{span_back, told_span}
use Rattle.common.specs.Items.{step_for}
use Rattle.common.specs.Turn.{Step}
use Rattle.common.specs.declared.span.Span.{Span}
use Rattle.cont.specs.declared.Framing.{Framing}
use Rattle.cont.specs.declared.ContIter.{ContIter}
use Rattle.cont.specs.declared.ContStep.{ContStep}
use Rattle.cont.specs.declared.Peeled.{Peeled}
use Rattle.cont.specs.declared.Closed.{Closed}
use Rattle.cont.specs.declared.Turn.{Turn as Told}
use Rattle.cont.specs.declared.Turn.TheVariants.{Go, Close, Stop}
use Rattle.cont.specs.Frames.{marks_from}
use Rattle.common.specs.Entry.{put_at}
use Rattle.cont.specs.Cont.{stand, closed_frames, FrameTurn, go, close, stop, Shut, shut, answer, state}

-- the markers of n open frames, followed from p: how many there are, and the place that the others follow from
pub record Peels (m : Framing) (s : List ℕ) (e p n : ℕ) (r : Peeled) : Type 0 where
  pub count : r.count ≡ length (marks_from m s e n p)
  pub rest : (k : ℕ) → drop r.count (marks_from m s e (r.count + k) p) ≡ marks_from m s e k r.cur

-- the places of l stored behind n open frames
pub record Opens (l : List ℕ) (n : ℕ) (old new : List ℕ) (r : ℕ) : Type 0 where
  pub cells : new ≡ put_at n l old
  pub count : r ≡ n + length l

-- what a turn says, with n frames open before it and the cells as it leaves them
abbrev pub view : ℕ → List ℕ → Told → FrameTurn
view n o (Go p k) = go (stand p o k)
view n o (Close k e p) = close (closed_frames o e k (n - k)) (stand p o k)
view n o (Stop p) = stop (stand p o n)

-- its numbers, where it stood at q, within a text of length len
abbrev pub TurnWithin : ℕ → ℕ → ℕ → Told → Type 0
TurnWithin len q n (Go p k) = (q < p) × (p ≤ len) × (k ≤ 32)
TurnWithin len q n (Close k e p) = (k ≤ n) × (e ≤ len)
TurnWithin len q n (Stop p) = p ≤ len

pub record FrameTurned (t : FrameTurn) (len q n : ℕ) (o : List ℕ) (r : Told) : Type 0 where
  pub tells : view n o r ≡ t
  pub within : TurnWithin len q n r

-- the frames that a scan closes, with the cells as it leaves them
abbrev pub closed_view : List ℕ → Closed → Shut
closed_view o r = shut (closed_frames o r.end r.from (r.held - r.from)) (stand r.pos o r.from)

pub record Scanned (x : Shut) (len : ℕ) (o : List ℕ) (r : Closed) : Type 0 where
  pub tells : closed_view o r ≡ x
  pub ordered : r.from ≤ r.held
  pub few : r.held ≤ 32
  pub high : r.end ≤ len

-- a state that is served
pub record Served (g : ContIter) (s : List ℕ) : Type 0 where
  pub short : length s ≤ 4294967295
  pub inside : g.pos ≤ length s
  pub nests : g.cap ≤ 32
  pub opens : g.open_len ≤ 32
  pub waits : g.pending_len ≤ 32
  pub drawn : g.pending_idx ≤ g.pending_len

-- the promise of `next` for its result
abbrev pub Kept : ContIter → List ℕ → ContStep → Type 0
Kept g s r = Steps (answer g s) (state g s) (told_span r.found) r.next

-- ---- steps of a run
-- the step that a result makes: a frame and the state after it, or the state at the end
abbrev pub told_step : ContStep → Step Span ContIter
told_step r = step_for span_back (told_span r.found).values r.next
