-- `build_records` meets its contract: the columns of the rules that are kept build what the whole run does. Assumes nothing.
use Rattle.context.specs.RecordLaws.{records_lent}
use Rattle.context.proofs.records.build_records.Goals as goal

pub returns : goal.returns
returns c = search records_lent
