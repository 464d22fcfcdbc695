-- `cell` meets its contract. Assumes nothing.
use Rattle.cells.specs.CellLaws.{cell-read, cell_none}
use Rattle.cells.proofs.cell.Goals as goal

pub returns-then-k-run : goal.returns-then-k-run
returns-then-k-run c = search cell-read

pub returns : goal.returns
returns c = search cell_none
