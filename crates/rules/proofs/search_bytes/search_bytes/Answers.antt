-- `search_bytes` meets its contract. Assumes nothing.
use Rattle.rules.specs.ColumnLaws.{searches}
use Rattle.rules.proofs.search_bytes.search_bytes.Goals as goal

pub returns : goal.returns
returns c = search searches
