-- `put_head_three` meets its contract. Assumes nothing.
use Rattle.listing.specs.PutLaws.{head_three_put}
use Rattle.listing.proofs.put_line.put_head_three.Goals as goal

pub returns : goal.returns
returns c = search head_three_put
