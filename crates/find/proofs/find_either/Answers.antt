-- `find_either` meets its contract. Assumes nothing.
use Rattle.find.specs.NeedleLaws.{sought_two}
use Rattle.find.proofs.find_either.Goals as goal

pub returns : goal.returns
returns c = search sought_two
