-- `number_led` meets its contract. Assumes nothing.
use Rattle.explain.proofs.WayLaws.{number_rules}
use Rattle.explain.proofs.leads.number_led.Goals as goal

pub returns-then-next-eq-DIGITS : goal.returns-then-next-eq-DIGITS
returns-then-next-eq-DIGITS c = search number_rules

pub returns-then-next-eq-DELIMITERS : goal.returns-then-next-eq-DELIMITERS
returns-then-next-eq-DELIMITERS c = search number_rules

pub returns : goal.returns
returns c = search number_rules
