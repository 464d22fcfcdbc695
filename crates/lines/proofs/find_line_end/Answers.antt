-- `find_line_end` meets its contract. Assumes nothing.
use Rattle.common.specs.RefusalLaws.{refuse_rules}
use Rattle.lines.specs.Leaf.{find_line_end}
use Rattle.lines.proofs.find_line_end.Goals as goal

pub returns-then-src-gt-MAX_INPUT_LEN : goal.returns-then-src-gt-MAX_INPUT_LEN
unfolding find_line_end
returns-then-src-gt-MAX_INPUT_LEN c = search refuse_rules

pub returns-then-from-src : goal.returns-then-from-src
unfolding find_line_end
returns-then-from-src c = search refuse_rules

pub returns : goal.returns
unfolding find_line_end
returns c = search refuse_rules
