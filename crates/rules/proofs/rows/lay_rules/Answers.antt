-- `lay_rules` meets its contract. Assumes nothing.
use Rattle.rules.specs.RowLaws.{whole_laid}
use Rattle.rules.proofs.rows.lay_rules.Goals as goal

pub returns : goal.returns
returns g c = search whole_laid
