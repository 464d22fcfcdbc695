-- `open_turn` meets its contract. Assumes nothing.
use Rattle.fence.specs.Laws.{turn_byte, turn_rules}
use borrow.Author.Rules.{rules}
use Rattle.fence.proofs.FenceIter.open_turn.Goals as goal

pub returns-then-p-src : goal.returns-then-p-src
returns-then-p-src c = search turn_rules

pub open_at-requires : goal.open_at-requires
open_at-requires c = search (turn_byte, rules)

pub returns-then-line_start : goal.returns-then-line_start
returns-then-line_start c = search turn_rules

pub returns-else-line_start : goal.returns-else-line_start
returns-else-line_start c = search turn_rules
