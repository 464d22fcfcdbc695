-- `SearchBytes::gather` meets its contract: a loop over a column. Assumes nothing.
use Rattle.rules.specs.ColumnLaws.{gathers_first, gathers_again, gathers_all}
use Rattle.rules.proofs.search_bytes.SearchBytes.gather.Goals as goal

pub loop-b-init : goal.loop-b-init
loop-b-init c = search gathers_first

pub loop-b-preserved : goal.loop-b-preserved
loop-b-preserved c = search gathers_again

pub returns : goal.returns
returns c = search gathers_all
