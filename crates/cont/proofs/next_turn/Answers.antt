-- `next_turn` meets its contract. Assumes nothing.
use Rattle.cont.specs.TurnLaws.{turn_flush, turn-line, turn-closes, turn_stops, turn_starts, turn-passes}
use Rattle.cont.proofs.next_turn.Goals as goal

pub returns-then-len-pos : goal.returns-then-len-pos
returns-then-len-pos c = search turn_flush

pub returns-then-is_at : goal.returns-then-is_at
returns-then-is_at c = search turn-line

pub returns-then-held-gt0 : goal.returns-then-held-gt0
returns-then-held-gt0 c = search turn-closes

pub returns-then-len-q : goal.returns-then-len-q
returns-then-len-q c = search turn_stops

pub returns-then-line_start : goal.returns-then-line_start
returns-then-line_start c = search turn_starts

pub returns : goal.returns
returns c = search turn-passes
