-- `pour_row` meets its contract. Assumes nothing.
use Rattle.cells.specs.ReplyLaws.{laid_region}
use Rattle.json_file.proofs.rows.pour_row.Goals as goal

pub returns : goal.returns
returns c = search laid_region
