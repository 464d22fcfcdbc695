-- `rack_cont_step` meets its contract. Assumes nothing.
use Rattle.panel.specs.ContState.{cont_stepper}
use Rattle.panel.specs.ContStateLaws.{cont_room}
use Rattle.panel.specs.StateLaws.{is-readable, step_long, step_unread, step_done}
use borrow.Author.Rules.{rules}
use Rattle.panel.proofs.scanners.rack_cont_step.Goals as goal

pub returns-then-text-gt-MAX_INPUT_LEN : goal.returns-then-text-gt-MAX_INPUT_LEN
returns-then-text-gt-MAX_INPUT_LEN c = search (step_long cont_stepper)

pub read_cont-requires : goal.read_cont-requires
read_cont-requires c = search is-readable

pub moved_span-requires : goal.moved_span-requires
moved_span-requires c = search (cont_room, rules)

pub returns-then-cont_fits : goal.returns-then-cont_fits
returns-then-cont_fits c = search (step_done cont_stepper)

pub returns : goal.returns
returns c = search (step_unread cont_stepper)
