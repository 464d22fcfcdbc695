-- `put_symmetric` meets its contract: rules are laid from the last to the first. Assumes nothing.
use Rattle.rules.specs.Rows.{twin}
use Rattle.rules.specs.RowLaws.{Laying}
use Rattle.rules.proofs.rows.put_symmetric.Given as goal

abbrev pub invariant-loop-i : goal.invariant-loop-i
invariant-loop-i g l = Laying l.symmetric (twin (g.T.Piece.numbers l.times)) l.initial.rows l.rows l.i
