-- `SearchBytes::gather` meets its contract: a loop over a column. Assumes nothing.
use Rattle.rules.specs.ColumnLaws.{Gathers}
use Rattle.rules.proofs.search_bytes.SearchBytes.gather.Given as goal

abbrev pub invariant-loop-b : goal.invariant-loop-b
invariant-loop-b l = Gathers l.initial.all l.column l.all l.b-index
