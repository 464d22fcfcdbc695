-- `copy_rows` meets its contract: a loop over rows that writes them moved. Assumes nothing.
use Prim.Native.Nat.{◌-◌}
use Rattle.cells.specs.Bytes.{cells, row_bytes}
use Rattle.amend.specs.RowLaws.{Copying}
use Rattle.amending.specs.Amending.{listed_bytes}
use Rattle.amending.proofs.rows.copy_rows.Given as goal

abbrev pub invariant-loop-i : goal.invariant-loop-i
invariant-loop-i l = Copying listed_bytes row_bytes (cells l.list) l.from l.to l.down l.up l.into l.initial.out l.out l.i l.n

abbrev pub decreases-loop-i : goal.decreases-loop-i
decreases-loop-i l = l.to - l.i
