-- `rack_fence_step` meets its contract. Assumes nothing.
use mathlib.Core.Path.{refl}
use Rattle.panel.specs.State.{fence_cells, fence_limits, fence_stepper}
use Rattle.panel.specs.StateLaws.{is-readable, state-room, step_long, step_unread, step_done}
use Rattle.panel.proofs.scanners.rack_fence_step.Goals as goal

pub returns-then-text-gt-MAX_INPUT_LEN : goal.returns-then-text-gt-MAX_INPUT_LEN
returns-then-text-gt-MAX_INPUT_LEN c = search (step_long fence_stepper)

pub read_fence-requires : goal.read_fence-requires
read_fence-requires c = search is-readable

pub moved_span-requires : goal.moved_span-requires
moved_span-requires c = search (state-room fence_cells fence_limits (λ g. refl))

pub returns-then-cells_fit : goal.returns-then-cells_fit
returns-then-cells_fit c = search (step_done fence_stepper)

pub returns : goal.returns
returns c = search (step_unread fence_stepper)
