-- `pass` meets its contract: a loop that skips regions. Assumes nothing.
use Rattle.cover.proofs.CursorLaws.{Passes}
use Rattle.common.specs.Entry.{wide}
use Rattle.cover.proofs.cursor.pass.Given as goal

abbrev pub invariant-loop-i : goal.invariant-loop-i
invariant-loop-i g l = Passes wide (g.T.Piece.numbers l.list) l.count l.index l.place l.i
