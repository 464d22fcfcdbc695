-- `put_end` meets its contract. Assumes nothing.
use Rattle.json_file.specs.WriteLaws.{end_put}
use Rattle.json_file.proofs.layout.put_end.Goals as goal

pub returns : goal.returns
returns c = search end_put
