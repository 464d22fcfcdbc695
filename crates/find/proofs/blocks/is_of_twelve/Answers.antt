-- `is_of_twelve` meets its contract. Assumes nothing.
use Rattle.find.specs.NeedleLaws.{twelve_told}
use Rattle.find.proofs.blocks.is_of_twelve.Goals as goal

pub returns : goal.returns
returns c = search twelve_told
