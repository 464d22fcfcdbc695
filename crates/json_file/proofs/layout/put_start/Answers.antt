-- `put_start` meets its contract. Assumes nothing.
use Rattle.json_file.specs.WriteLaws.{start_put}
use Rattle.json_file.proofs.layout.put_start.Goals as goal

pub returns : goal.returns
returns c = search start_put
