-- `cells_fit` meets its contract: a loop that holds each cell to its limit. Assumes nothing.
use Rattle.cells.specs.CellLaws.{readable_size, readable_count, fitting_first, fitting_again, fitting_end}
use Rattle.cells.proofs.cells_fit.Goals as goal

pub returns-then-run-ne0 : goal.returns-then-run-ne0
returns-then-run-ne0 c = search readable_size

pub returns-then-run-limits : goal.returns-then-run-limits
returns-then-run-limits c = search readable_count

pub loop-k-init : goal.loop-k-init
loop-k-init c = search fitting_first

pub loop-k-preserved : goal.loop-k-preserved
loop-k-preserved c = search fitting_again

pub returns : goal.returns
returns c = search fitting_end
