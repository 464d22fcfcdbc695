-- `line_led` meets its contract. Assumes nothing.
use Rattle.explain.proofs.WayLaws.{line-within, line_there, line_not}
use Rattle.explain.proofs.leads.line_led.Goals as goal

pub led_at-requires-clause-a_in_bounds : goal.led_at-requires-clause-a_in_bounds
led_at-requires-clause-a_in_bounds c = search line-within

pub returns-in-Some : goal.returns-in-Some
returns-in-Some c = search line_there

pub returns-in-None : goal.returns-in-None
returns-in-None c = search line_not
