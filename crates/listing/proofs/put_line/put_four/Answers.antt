-- `put_four` meets its contract. Assumes nothing.
use Rattle.listing.specs.PutLaws.{four_put}
use Rattle.listing.proofs.put_line.put_four.Goals as goal

pub returns : goal.returns
returns c = search four_put
