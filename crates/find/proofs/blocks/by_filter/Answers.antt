-- `by_filter` meets its contract: stages that are put together. Assumes nothing.
use Rattle.find.specs.BlockLaws.{sought_rules}
use Rattle.find.proofs.blocks.by_filter.Goals as goal

pub returns : goal.returns
returns c = search sought_rules
