-- `few` meets its contract: stages that are put together. Assumes nothing.
use Rattle.find.specs.BlockLaws.{sought_rules}
use Rattle.find.proofs.blocks.few.Goals as goal

pub returns-then-len-from : goal.returns-then-len-from
returns-then-len-from c = search sought_rules

pub returns-then-m-lt32 : goal.returns-then-m-lt32
returns-then-m-lt32 c = search sought_rules

pub returns : goal.returns
returns c = search sought_rules
