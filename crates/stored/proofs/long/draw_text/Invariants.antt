-- `draw_text` meets its contract: a loop that draws the bytes. Assumes nothing.
use Rattle.stored.specs.LongLaws.{Draws}
use Rattle.stored.proofs.long.draw_text.Given as goal

abbrev pub invariant-loop-i : goal.invariant-loop-i
invariant-loop-i l = Draws l.alphabet l.fn.first l.i-end l.bytes l.last l.i
