-- `put_head` meets its contract. Assumes nothing.
use Rattle.listing.specs.PutLaws.{head_put}
use Rattle.listing.proofs.put_line.put_head.Goals as goal

pub returns : goal.returns
returns c = search head_put
