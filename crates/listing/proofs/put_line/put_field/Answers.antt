-- `put_field` meets its contract. Assumes nothing.
use Rattle.listing.specs.PutLaws.{field_put}
use Rattle.listing.proofs.put_line.put_field.Goals as goal

pub returns : goal.returns
returns c = search field_put
