-- What the functions promise of a step, and the step that a run takes. Assumes nothing.
-- The page: "each step takes a state and gives the answer with the next state".
use Rattle.std.specs.Prelude.{List, ℕ}
use Rattle.search.specs.Promise.{Steps}
use Rattle.common.specs.Refusals.{span_back, told_span}
use Rattle.common.specs.Items.{step_for}
use Rattle.common.specs.Turn.{Step, step_of}
use Rattle.fence.specs.Fence.{Fence, at, first_open, answer, state}
use Rattle.fence.specs.declared.FenceIter.{FenceIter}
use Rattle.fence.specs.declared.FenceStep.{FenceStep}

-- the promise of `next` for its result
abbrev pub Kept : FenceIter → List ℕ → FenceStep → Type 0
Kept g s r = Steps (answer g s) (state g s) (told_span r.found) r.next

-- ---- steps of a run
-- the step that a result makes: a fence and the state after it, or the state at the end
abbrev pub told_step : FenceStep → Step Fence FenceIter
told_step r = step_for span_back (told_span r.found).values r.next

-- the step from a state within a text of at most 4,294,967,295 bytes
unfoldable pub stepped : FenceIter → List ℕ → Step Fence FenceIter
stepped g s = step_of (at g) (first_open g s)
