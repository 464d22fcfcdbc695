-- `rack_numbered_step` meets its contract. Assumes nothing.
use mathlib.Core.Path.{refl}
use Rattle.panel.specs.State.{item_limits, numbered_cells, numbered_stepper}
use Rattle.panel.specs.StateLaws.{is-readable, state-room, set_long, set_unread, set_done}
use Rattle.panel.proofs.scanners.rack_numbered_step.Goals as goal

pub returns-then-text-gt-MAX_INPUT_LEN : goal.returns-then-text-gt-MAX_INPUT_LEN
returns-then-text-gt-MAX_INPUT_LEN c = search (set_long numbered_stepper)

pub read_numbered-requires : goal.read_numbered-requires
read_numbered-requires c = search is-readable

pub moved_numbered-requires : goal.moved_numbered-requires
moved_numbered-requires c = search (state-room numbered_cells item_limits (λ g. refl))

pub returns-then-cells_fit : goal.returns-then-cells_fit
returns-then-cells_fit c = search (set_done numbered_stepper)

pub returns : goal.returns
returns c = search (set_unread numbered_stepper)
