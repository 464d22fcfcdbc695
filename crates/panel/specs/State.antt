-- States as byte runs, and what a scanner's entries return and leave. Assumes nothing.
-- The page: "each step takes a state and gives the answer with the next state", "For a scanner: 1, 2."
use Rattle.std.specs.Prelude.{◌≡◌, Bool, not, cond, List, [], ◌∷◌, ℕ, eqb, get_or}
use Rattle.common.specs.Sets.{as_flag}
use Rattle.common.specs.Items.{unless_refused}
use Rattle.common.specs.Entry.{flatten}
use Rattle.common.specs.Refusals.{Outcome, leaves}
use Rattle.common.specs.Scanning as scanning
use Rattle.common.specs.Scanning.{Fields, Scanner}
use Rattle.fence.specs.declared.FenceIter.{FenceIter}
use Rattle.fence.specs.Fence as fence
use Rattle.block_marker.specs.Marker.{BlockMarkerIter}
use Rattle.block_marker.specs.Marker as marker
use Rattle.block_numbered.specs.Numbered.{BlockNumberedIter}
use Rattle.block_numbered.specs.Numbered as numbered
use Rattle.cells.specs.Bytes.{four, cells, fourfold, readable}
use Rattle.cells.specs.Reply.{fitted, Replied}

-- ---- `new`: it writes the cells of a fresh state
pub record Made (next run run' : List ℕ) (r : ℕ) : Type 0 where
  pub number : r ≡ cond (fourfold run next) 0 2
  pub left : run' ≡ cond (fourfold run next) (flatten four next) run

-- ---- a step
-- the runs that a step writes to
pub record StateRuns : Type 0 where
  pub state : List ℕ
  pub answer : List ℕ

-- a reply, and the state's run, over which success writes the next state
pub record Moved (o : Outcome) (next : List ℕ) (before after : StateRuns) (r : ℕ) : Type 0 where
  pub reply : Replied o before.answer after.answer r
  pub left : after.state ≡ leaves (fitted o before.answer) before.state (flatten four next)

-- a scanner with states in cells: the state that cells make, a state's cells, a limit for each of them, and what a step over a
-- text answers and leaves
pub record Stepper (G : Type 0) : Type 0 where
  pub read : List ℕ → G
  pub show : G → List ℕ
  pub limits : List ℕ
  pub answer : G → List ℕ → Outcome
  pub next : G → List ℕ → G

-- a step's answer over a state's run: "For a scanner: 1, 2."
unfoldable pub step_answer : {G : Type 0} → Stepper G → List ℕ → StateRuns → Outcome
step_answer c s before = unless_refused s (not (readable c.limits before.state)) (c.answer (c.read (cells before.state)) s)

-- the promise of a step
abbrev pub Stepped : {G : Type 0} → Stepper G → List ℕ → StateRuns → StateRuns → ℕ → Type 0
Stepped c s before after r = Moved (step_answer c s before) (c.show (c.next (c.read (cells before.state)) s)) before after r

-- ---- the fence scanner's state
abbrev pub fence_limits : List ℕ
fence_limits = 255 ∷ 255 ∷ 255 ∷ 255 ∷ 255 ∷ 4294967295 ∷ []

abbrev pub fence_cells : FenceIter → List ℕ
fence_cells g = g.byte ∷ g.min ∷ g.eol ∷ g.sep ∷ g.tab ∷ g.pos ∷ []

unfoldable pub fence_from : List ℕ → FenceIter
fence_from l = record { byte = get_or l 0 0; min = get_or l 1 0; eol = get_or l 2 0; sep = get_or l 3 0; tab = get_or l 4 0; pos = get_or l 5 0 }

abbrev pub fence_stepper : Stepper FenceIter
fence_stepper = record { read = fence_from; show = fence_cells; limits = fence_limits; answer = fence.answer; next = fence.state }

-- ---- the marker scanner's state, and the numbered scanner's, which has the same fields
abbrev pub item_limits : List ℕ
item_limits = 255 ∷ 255 ∷ 255 ∷ 4294967295 ∷ 255 ∷ 255 ∷ 255 ∷ 4294967295 ∷ 1 ∷ []

-- their cells: line end, separator, tab, place, three needles, the needles' count, and whether the scan streams
abbrev pub item_cells : Fields → List ℕ
item_cells f = f.eol ∷ f.sep ∷ f.tab ∷ f.pos ∷ get_or f.needles 0 0 ∷ get_or f.needles 1 0 ∷ get_or f.needles 2 0 ∷ f.nn ∷ as_flag f.streaming ∷ []

-- the fields that such cells say
abbrev pub item_fields : List ℕ → Fields
item_fields l = record {
  eol = get_or l 0 0;
  sep = get_or l 1 0;
  tab = get_or l 2 0;
  pos = get_or l 3 0;
  needles = get_or l 4 0 ∷ get_or l 5 0 ∷ get_or l 6 0 ∷ [];
  nn = get_or l 7 0;
  streaming = eqb (get_or l 8 0) 1;
}

-- of either scanner
module _ {S A : Type 0} (c : Scanner S A) where
  -- a state's cells, and the state that cells make
  abbrev pub item_show : S → List ℕ
  item_show g = item_cells (c.fields g)

  unfoldable pub item_read : List ℕ → S
  item_read l = c.made (item_fields l)

  -- by a set of accepted bytes
  abbrev pub item_stepper : List Bool → Stepper S
  item_stepper accepted = record { read = item_read; show = item_show; limits = item_limits; answer = λ g s. scanning.answer c g accepted s; next = λ g s. scanning.state c g accepted s }

abbrev pub marker_cells : BlockMarkerIter → List ℕ
marker_cells = item_show marker.scanner

abbrev pub marker_from : List ℕ → BlockMarkerIter
marker_from = item_read marker.scanner

abbrev pub marker_stepper : List Bool → Stepper BlockMarkerIter
marker_stepper = item_stepper marker.scanner

abbrev pub numbered_cells : BlockNumberedIter → List ℕ
numbered_cells = item_show numbered.scanner

abbrev pub numbered_from : List ℕ → BlockNumberedIter
numbered_from = item_read numbered.scanner

abbrev pub numbered_stepper : List Bool → Stepper BlockNumberedIter
numbered_stepper = item_stepper numbered.scanner
