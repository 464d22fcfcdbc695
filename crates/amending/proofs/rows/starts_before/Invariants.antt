-- `starts_before` meets its contract: a loop that halves. Assumes nothing.
use Prim.Native.Nat.{◌-◌}
use Rattle.cells.specs.Bytes.{cells}
use Rattle.amend.specs.RowLaws.{Halving}
use Rattle.amending.proofs.rows.starts_before.Given as goal

abbrev pub invariant-loop-low : goal.invariant-loop-low
invariant-loop-low l = Halving (cells l.list) l.count l.k l.low l.high

abbrev pub decreases-loop-low : goal.decreases-loop-low
decreases-loop-low l = l.high - l.low
