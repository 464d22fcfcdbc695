-- `next_in_paragraph` meets its contract. Assumes nothing.
use Rattle.common.specs.RefusalLaws.{refuse_rules}
use Rattle.lines.specs.Leaf.{next_in_paragraph}
use Rattle.lines.specs.LeafLaws.{paragraph_at, paragraph_end_lem}
use Rattle.lines.proofs.next_in_paragraph.Goals as goal

pub returns-then-src-gt-MAX_INPUT_LEN : goal.returns-then-src-gt-MAX_INPUT_LEN
unfolding next_in_paragraph
returns-then-src-gt-MAX_INPUT_LEN c = search refuse_rules

pub returns-then-bytes-mins : goal.returns-then-bytes-mins
unfolding next_in_paragraph
returns-then-bytes-mins c = search refuse_rules

pub returns-then-from-src : goal.returns-then-from-src
unfolding next_in_paragraph
returns-then-from-src c = search refuse_rules

pub returns-in-At : goal.returns-in-At
unfolding next_in_paragraph
returns-in-At c = search (refuse_rules, paragraph_at)

pub returns-in-End : goal.returns-in-End
unfolding next_in_paragraph
returns-in-End c = search (refuse_rules, paragraph_end_lem)
