-- `put_object` meets its contract. Assumes nothing.
use Rattle.json_file.specs.WriteLaws.{object_put}
use Rattle.json_file.proofs.layout.put_object.Goals as goal

pub returns : goal.returns
returns c = search object_put
