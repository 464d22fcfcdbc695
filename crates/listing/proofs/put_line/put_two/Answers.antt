-- `put_two` meets its contract. Assumes nothing.
use Rattle.listing.specs.PutLaws.{two_put}
use Rattle.listing.proofs.put_line.put_two.Goals as goal

pub returns : goal.returns
returns c = search two_put
