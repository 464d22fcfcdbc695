-- `count` of bytes meets its contract. Assumes nothing.
use Rattle.std.proofs.Common.{sym}
use Rattle.cells.specs.CellLaws.{length-cells}
use Rattle.cells.proofs.U8Piece.count.Goals as goal

pub returns : goal.returns
returns c = record { answer = sym (length-cells c.args.run.now) }
