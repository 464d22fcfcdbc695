-- `put_list` meets its contract. Assumes nothing.
use Rattle.json_file.specs.WriteLaws.{list_put}
use Rattle.json_file.proofs.layout.put_list.Goals as goal

pub returns : goal.returns
returns g c = search list_put
