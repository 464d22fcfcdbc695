-- `asym_turn` meets its contract. Assumes nothing.
use Rattle.region.specs.StepLaws.{hit_next, asym_end, asym_passed, asym_closed}
use Rattle.region.proofs.pairs.asym_turn.Goals as goal

pub overflow_add-result : goal.overflow_add-result
overflow_add-result c = search hit_next

pub returns-then-is_escaped : goal.returns-then-is_escaped
returns-then-is_escaped c = search asym_passed

pub overflow_add-result-in-At : goal.overflow_add-result-in-At
overflow_add-result-in-At c = search hit_next

pub returns-in-End : goal.returns-in-End
returns-in-End c = search asym_end

pub returns-else-is_escaped : goal.returns-else-is_escaped
returns-else-is_escaped c = search asym_closed
