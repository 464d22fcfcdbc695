-- `find_many` meets its contract. Assumes nothing.
use Rattle.find.specs.NeedleLaws.{sought_six, sought_twelve}
use Rattle.find.proofs.find_many.Goals as goal

pub returns-then-n-le6 : goal.returns-then-n-le6
returns-then-n-le6 c = search sought_six

pub returns : goal.returns
returns c = search sought_twelve
