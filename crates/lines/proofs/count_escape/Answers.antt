-- `count_escape` meets its contract. Assumes nothing.
use Rattle.common.specs.RefusalLaws.{refuse_rules}
use Rattle.lines.specs.Leaf.{count_escape}
use Rattle.lines.proofs.count_escape.Goals as goal

pub returns-then-src-gt-MAX_INPUT_LEN : goal.returns-then-src-gt-MAX_INPUT_LEN
unfolding count_escape
returns-then-src-gt-MAX_INPUT_LEN c = search refuse_rules

pub returns-then-pos-src : goal.returns-then-pos-src
unfolding count_escape
returns-then-pos-src c = search refuse_rules

pub returns : goal.returns
unfolding count_escape
returns c = search refuse_rules
