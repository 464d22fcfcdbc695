-- `put_region` meets its contract. Assumes nothing.
use Rattle.cells.specs.ReplyLaws.{laid_region}
use Rattle.pour.proofs.pouring.put_region.Goals as goal

pub returns : goal.returns
returns c = search laid_region
