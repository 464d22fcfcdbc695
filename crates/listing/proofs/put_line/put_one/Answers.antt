-- `put_one` meets its contract. Assumes nothing.
use Rattle.listing.specs.PutLaws.{one_put}
use Rattle.listing.proofs.put_line.put_one.Goals as goal

pub returns : goal.returns
returns c = search one_put
