-- `served` meets its contract: a loop of turns. Assumes nothing.
use Prim.Native.Nat.{◌-◌}
use lib.ListN.{length}
use Rattle.common.specs.Kinds.{scanner_of}
use Rattle.common.specs.Later.{Unled}
use Rattle.common.specs.Scanning.{turn}
use Rattle.common.specs.Turning.{Stands}
use Rattle.common.proofs.scan.ItemIter.served.Given as goal

abbrev pub invariant-loop-n : goal.invariant-loop-n
invariant-loop-n g l =
    Stands g.K.ItemKind.lies (turn (scanner_of g.row.K.Denot g.K.ItemKind.reading) l.self l.matches l.src) (length l.src) l.self.pos l.q × Unled l.self.eol l.self.sep l.self.tab l.src l.lost

abbrev pub decreases-loop-n : goal.decreases-loop-n
decreases-loop-n g l = length l.src - l.q
