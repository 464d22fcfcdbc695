-- `rule_rows` meets its contract. Assumes nothing.
use Rattle.rules.specs.RowLaws.{laid_folded}
use Rattle.rules.proofs.rows.rule_rows.Goals as goal

pub returns : goal.returns
returns g c = search laid_folded
