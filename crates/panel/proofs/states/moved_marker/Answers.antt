-- `moved_marker` meets its contract. Assumes nothing.
use Rattle.std.specs.Prelude.{Ok}
use Rattle.std.proofs.Common.{ap, ◌∙◌}
use Rattle.block_marker.specs.Marker.{told}
use Rattle.panel.specs.StateLaws.{moved_told, moved-refused}
use Rattle.panel.proofs.states.moved_marker.Goals as goal

pub returns-in-Ok-Some : goal.returns-in-Ok-Some
returns-in-Ok-Some c = let m = c.in-Ok-Some.is ∙ ap Ok (rw c.in-Ok-Some.is at c.in-Ok-Some.field-0-is) in search (moved_told told)

pub returns-in-Ok-None : goal.returns-in-Ok-None
returns-in-Ok-None c = let m = c.in-Ok-None.is ∙ ap Ok (rw c.in-Ok-None.is at c.in-Ok-None.field-0-is) in search (moved_told told)

pub returns-in-Err : goal.returns-in-Err
returns-in-Err c = search (moved-refused told)
