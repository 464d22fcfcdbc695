-- `turn` meets its contract: the turn of the scan that the flag says. Assumes nothing.
use borrow.Author.Rules.{rules}
use Rattle.common.specs.Kinds.{scanner_of}
use Rattle.common.specs.ScanningLaws.{turn_stream, turn-line}
use Rattle.common.proofs.scan.ItemIter.turn.Goals as goal

pub returns-then-self : goal.returns-then-self
returns-then-self g c = search (turn_stream (scanner_of g.row.K.Denot g.K.ItemKind.reading), rules)

pub returns : goal.returns
returns g c = search (turn-line (scanner_of g.row.K.Denot g.K.ItemKind.reading), rules)
