-- `body_led` meets its contract. Assumes nothing.
use Rattle.explain.proofs.WayLaws.{body_rules, body_digit}
use Rattle.explain.proofs.leads.body_led.Goals as goal

pub number_led-requires-clause-p_value : goal.number_led-requires-clause-p_value
number_led-requires-clause-p_value c = search body_digit

pub returns-then-lead-eq-MARKERS : goal.returns-then-lead-eq-MARKERS
returns-then-lead-eq-MARKERS c = search body_rules

pub returns : goal.returns
returns c = search body_rules
