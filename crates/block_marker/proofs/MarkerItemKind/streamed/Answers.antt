-- `streamed` meets its contract. Assumes nothing.
use Rattle.block_marker.specs.MarkerLaws.{stream_rules}
use Rattle.block_marker.proofs.MarkerItemKind.streamed.Goals as goal

pub returns-then-p-src : goal.returns-then-p-src
returns-then-p-src c = λ u. search stream_rules

pub returns : goal.returns
returns c = λ u. let w = c.leads_here-led.ensures u in search (stream_rules, c.hit.ensures)
