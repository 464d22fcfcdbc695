-- `one` meets its contract: stages that are put together. Assumes nothing.
use Rattle.search.specs.SearchLaws.{sought_past}
use Rattle.find.specs.BlockLaws.{sought_rules}
use Rattle.find.specs.NeedleLaws.{sought_one}
use Rattle.find.proofs.blocks.one.Goals as goal

pub returns-then-len-from : goal.returns-then-len-from
returns-then-len-from c = search sought_past

pub returns-then-len-from-lt128 : goal.returns-then-len-from-lt128
returns-then-len-from-lt128 c = search (sought_one, sought_rules)

pub returns-then-i-near : goal.returns-then-i-near
returns-then-i-near c = search (sought_one, sought_rules)

pub returns : goal.returns
returns c = search (sought_one, sought_rules)
