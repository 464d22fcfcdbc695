-- `near` meets its contract: a block, and what lies beyond it. Assumes nothing.
use Rattle.find.specs.BlockLaws.{sought_rules}
use Rattle.find.proofs.blocks.near.Goals as goal

pub returns-then-m-lt32 : goal.returns-then-m-lt32
returns-then-m-lt32 c = search sought_rules

pub returns : goal.returns
returns c = search sought_rules
