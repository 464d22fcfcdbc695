-- `rack_marker_step` meets its contract. Assumes nothing.
use mathlib.Core.Path.{refl}
use Rattle.panel.specs.State.{item_limits, marker_cells, marker_stepper}
use Rattle.panel.specs.StateLaws.{is-readable, state-room, set_long, set_unread, set_done}
use Rattle.panel.proofs.scanners.rack_marker_step.Goals as goal

pub returns-then-text-gt-MAX_INPUT_LEN : goal.returns-then-text-gt-MAX_INPUT_LEN
returns-then-text-gt-MAX_INPUT_LEN c = search (set_long marker_stepper)

pub read_marker-requires : goal.read_marker-requires
read_marker-requires c = search is-readable

pub moved_marker-requires : goal.moved_marker-requires
moved_marker-requires c = search (state-room marker_cells item_limits (λ g. refl))

pub returns-then-cells_fit : goal.returns-then-cells_fit
returns-then-cells_fit c = search (set_done marker_stepper)

pub returns : goal.returns
returns c = search (set_unread marker_stepper)
