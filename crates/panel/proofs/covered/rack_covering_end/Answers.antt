-- `rack_covering_end` meets its contract. Assumes nothing.
use Rattle.std.specs.Prelude.{Ok}
use Rattle.std.proofs.Common.{ap, ◌∙◌}
use Rattle.panel.specs.CoveredLaws.{covered-at, covered_none, covered-refused}
use Rattle.panel.proofs.covered.rack_covering_end.Goals as goal

pub returns-in-Ok-Some : goal.returns-in-Ok-Some
returns-in-Ok-Some c = let m = c.in-Ok-Some.is ∙ ap Ok (rw c.in-Ok-Some.is at c.in-Ok-Some.field-0-is) in search covered-at

pub returns-in-Ok-None : goal.returns-in-Ok-None
returns-in-Ok-None c = let m = c.in-Ok-None.is ∙ ap Ok (rw c.in-Ok-None.is at c.in-Ok-None.field-0-is) in search covered_none

pub returns-in-Err : goal.returns-in-Err
returns-in-Err c = search covered-refused
