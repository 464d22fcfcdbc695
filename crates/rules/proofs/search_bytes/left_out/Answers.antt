-- `left_out` meets its contract. Assumes nothing.
use Rattle.rules.specs.LeftOutLaws.{left_sets}
use Rattle.rules.proofs.search_bytes.left_out.Goals as goal

pub returns : goal.returns
returns c = search left_sets
