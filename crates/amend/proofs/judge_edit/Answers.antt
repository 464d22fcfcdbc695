-- `judge_edit` meets its contract. Assumes nothing.
use Rattle.amend.specs.JudgeLaws.{judged_old, judged-text, judged-columns, judged_order, judged-past, judged-edited, judged-edit}
use Rattle.amend.proofs.judge_edit.Goals as goal

pub returns-then-len-gt-MAX_INPUT_LEN : goal.returns-then-len-gt-MAX_INPUT_LEN
returns-then-len-gt-MAX_INPUT_LEN c = search judged_old

pub returns-then-text-gt-MAX_INPUT_LEN : goal.returns-then-text-gt-MAX_INPUT_LEN
returns-then-text-gt-MAX_INPUT_LEN c = search judged-text

pub returns-then-unequal : goal.returns-then-unequal
returns-then-unequal c = search judged-columns

pub returns-then-first-second : goal.returns-then-first-second
returns-then-first-second c = search judged_order

pub returns-then-second-len : goal.returns-then-second-len
returns-then-second-len c = search judged-past

pub returns-then-len-second-gt-MAX_INPUT_LEN : goal.returns-then-len-second-gt-MAX_INPUT_LEN
returns-then-len-second-gt-MAX_INPUT_LEN c = search judged-edited

pub returns : goal.returns
returns c = search judged-edit
