-- `nth` meets its contract: a loop that writes the bytes. Assumes nothing.
use Rattle.stored.specs.TextLaws.{Spells}
use Rattle.stored.proofs.texts.nth.Given as goal

abbrev pub invariant-loop-i : goal.invariant-loop-i
invariant-loop-i l = Spells l.alphabet l.fn.number l.i-end l.bytes l.left l.i
