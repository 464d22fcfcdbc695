-- `put_openers` meets its contract: rules are laid from the last to the first. Assumes nothing.
use Rattle.rules.specs.RowLaws.{OpenersLaying}
use Rattle.rules.proofs.rows.put_openers.Given as goal

abbrev pub invariant-loop-i : goal.invariant-loop-i
invariant-loop-i g l = OpenersLaying l.openers l.closers (g.T.Piece.numbers l.counts) l.initial.rows l.rows l.i
