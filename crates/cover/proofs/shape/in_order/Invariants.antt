-- `in_order` meets its contract: a loop over rows that tests their places. Assumes nothing.
use Rattle.common.specs.Entry.{wide}
use Rattle.common.specs.EntryLaws.{Shaping}
use Rattle.cover.proofs.shape.in_order.Given as goal

abbrev pub invariant-loop-k : goal.invariant-loop-k
invariant-loop-k g l = Shaping wide (g.T.Piece.numbers l.list) l.count l.len 0 l.k l.low
