-- `trio` meets its contract. Assumes nothing.
use Rattle.find.specs.NeedleLaws.{trio_told}
use Rattle.find.proofs.trio.Goals as goal

pub returns : goal.returns
returns c = search trio_told
