-- `find_few` meets its contract. Assumes nothing.
use Rattle.find.specs.NeedleLaws.{sought_single, sought_few}
use Rattle.find.proofs.find_few.Goals as goal

pub returns-then-n-eq1 : goal.returns-then-n-eq1
returns-then-n-eq1 c = search sought_single

pub returns : goal.returns
returns c = search sought_few
