-- `sym_turn` meets its contract. Assumes nothing.
use Rattle.region.specs.StepLaws.{hit_next, sym_end, sym_passed, sym_closed, sym_on}
use Rattle.region.proofs.pairs.sym_turn.Goals as goal

pub overflow_add-result : goal.overflow_add-result
overflow_add-result c = search hit_next

pub returns-then-is_escaped : goal.returns-then-is_escaped
returns-then-is_escaped c = search sym_passed

pub returns-then-t-q : goal.returns-then-t-q
returns-then-t-q c = search sym_closed

pub returns-in-End : goal.returns-in-End
returns-in-End c = search sym_end

pub returns-else-t-q : goal.returns-else-t-q
returns-else-t-q c = search sym_on
