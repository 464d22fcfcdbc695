-- `put_objects` meets its contract. Assumes nothing.
use Rattle.json_file.specs.WriteLaws.{LayingOut}
use Rattle.json_file.proofs.layout.put_objects.Given as goal

abbrev pub invariant-loop-k : goal.invariant-loop-k
invariant-loop-k g l = LayingOut (g.T.Piece.numbers l.list) l.count l.initial.out l.out l.n l.k
