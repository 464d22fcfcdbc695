-- `lay_numbers` meets its contract: a loop that lays numbers. Assumes nothing.
use Rattle.cells.specs.Bytes.{four}
use Rattle.cells.specs.ByteLaws.{Lays}
use Rattle.cells.proofs.reply.lay_numbers.Given as goal

abbrev pub invariant-loop-i : goal.invariant-loop-i
invariant-loop-i l = Lays four 4 l.all l.from l.i l.initial.out l.out
