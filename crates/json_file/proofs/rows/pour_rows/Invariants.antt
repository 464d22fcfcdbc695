-- `pour_rows` meets its contract: a loop that writes. Assumes nothing.
use Prim.Native.Nat.{◌-◌}
use lib.ListN.{length}
use Rattle.cells.specs.Bytes.{row_bytes}
use Rattle.json_file.specs.ByteRecords.{span_bytes}
use Rattle.json_file.specs.RowLaws.{Entered}
use Rattle.json_file.proofs.rows.pour_rows.Given as goal

abbrev pub invariant-loop-a : goal.invariant-loop-a
invariant-loop-a l = Entered span_bytes row_bytes l.file l.initial.out l.out l.i l.g l.n

abbrev pub decreases-loop-a : goal.decreases-loop-a
decreases-loop-a l = length l.file - l.i
