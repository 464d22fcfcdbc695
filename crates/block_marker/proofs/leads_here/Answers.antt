-- `leads_here` meets its contract. Assumes nothing.
use Rattle.common.specs.LaterLaws.{led_rules}
use Rattle.block_marker.proofs.leads_here.Goals as goal

pub returns-then-is_blank : goal.returns-then-is_blank
returns-then-is_blank c = λ u. search led_rules
