-- `many_of_three` meets its contract. Assumes nothing.
use Rattle.find.specs.NeedleLaws.{reaches_three}
use Rattle.find.proofs.blocks.many_of_three.Goals as goal

pub returns : goal.returns
returns c = let m = rw c.from.ensures at c.many.ensures in search reaches_three
