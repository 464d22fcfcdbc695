-- `count_listed` meets its contract. Assumes nothing.
use Rattle.listed.specs.ListedLaws.{count_off, count_on}
use Rattle.listed.proofs.count_listed.Goals as goal

pub returns-in-Err : goal.returns-in-Err
returns-in-Err c = count_off _ _ _ _ _ _ _ _ c.in-Err.ensures c.number.ensures _

pub returns : goal.returns
returns c = let p = c.in-Ok.ensures in rw (← p.0, ← p.1, ← p.2) (search count_on)
