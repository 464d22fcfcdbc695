-- `nearest_of_three` meets its contract. Assumes nothing.
use Rattle.find.specs.NeedleLaws.{stage_three}
use Rattle.find.proofs.blocks.nearest_of_three.Goals as goal

pub returns : goal.returns
returns c = let m = rw c.from.ensures at c.nearest.ensures in search stage_three
