-- `put_number` meets its contract. Assumes nothing.
use Rattle.put.specs.PutLaws.{put_digits}
use Rattle.put.proofs.put_number.Goals as goal

pub returns : goal.returns
returns c = search put_digits
