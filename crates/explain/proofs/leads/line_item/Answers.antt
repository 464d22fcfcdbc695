-- `line_item` meets its contract. Assumes nothing.
use Rattle.explain.proofs.AnswerLaws.{line_long, line-served}
use Rattle.explain.proofs.leads.line_item.Goals as goal

pub returns-then-text-gt-MAX_INPUT_LEN : goal.returns-then-text-gt-MAX_INPUT_LEN
returns-then-text-gt-MAX_INPUT_LEN c = search line_long

pub returns : goal.returns
returns c = search line-served
