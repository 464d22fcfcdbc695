-- `cells_fit` meets its contract: a loop that holds each cell to its limit. Assumes nothing.
use Rattle.cells.specs.CellLaws.{Fitting}
use Rattle.cells.proofs.cells_fit.Given as goal

abbrev pub invariant-loop-k : goal.invariant-loop-k
invariant-loop-k l = Fitting l.limits l.run l.fit l.k
