-- `write_items` meets its contract: a loop of turns that writes. Assumes nothing.
use lib.ListN.{length}
use Rattle.feed.specs.Ahead.{ahead}
use Rattle.common.specs.Entry.{rows, wide}
use Rattle.sheet.specs.Sheet.{five}
use Rattle.sheet.specs.Parts.{left, Ready}
use Rattle.sheet.specs.LeftLaws.{Writing}
use Rattle.sheet.proofs.write_items.Given as goal

abbrev pub invariant-loop-w : goal.invariant-loop-w
invariant-loop-w g l =
    Writing l.markers l.delims l.src (rows wide l.count (g.T.Piece.numbers l.list)) five 5 (left l.markers l.delims l.src (rows wide l.count (g.T.Piece.numbers l.list)) l.initial.w.feed) l.initial.out l.w.feed l.out l.n × Ready l.markers l.delims (g.T.Piece.numbers l.list) l.count l.src l.w

abbrev pub decreases-loop-w : goal.decreases-loop-w
decreases-loop-w g l = length (ahead l.markers l.delims l.src l.w.feed)
