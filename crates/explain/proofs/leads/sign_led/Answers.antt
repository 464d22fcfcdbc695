-- `sign_led` meets its contract. Assumes nothing.
use Rattle.explain.proofs.WayLaws.{sign_rules, sign_fits}
use Rattle.explain.proofs.leads.sign_led.Goals as goal

pub returns-then-j-line : goal.returns-then-j-line
returns-then-j-line c = search sign_rules

pub overflow_cast-result : goal.overflow_cast-result
overflow_cast-result c = search sign_fits

pub returns-then-blank_at : goal.returns-then-blank_at
returns-then-blank_at c = search sign_rules

pub returns : goal.returns
returns c = search sign_rules
