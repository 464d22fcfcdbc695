-- `put_three` meets its contract. Assumes nothing.
use Rattle.listing.specs.PutLaws.{three_put}
use Rattle.listing.proofs.put_line.put_three.Goals as goal

pub returns : goal.returns
returns c = search three_put
