-- `write_rows` meets its contract: a loop that writes. Assumes nothing.
use Prim.Native.Nat.{◌-◌}
use lib.ListN.{length}
use Rattle.common.specs.Entry.{wide}
use Rattle.common.specs.Refusals.{span_values}
use Rattle.json_file.specs.RowLaws.{Entered}
use Rattle.json_file.proofs.rows.write_rows.Given as goal

abbrev pub invariant-loop-a : goal.invariant-loop-a
invariant-loop-a l = Entered span_values wide l.file l.initial.out l.out l.i l.g l.n

abbrev pub decreases-loop-a : goal.decreases-loop-a
decreases-loop-a l = length l.file - l.i
