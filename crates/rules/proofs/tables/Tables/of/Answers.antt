-- `Tables::of` meets its contract. Assumes nothing.
use Rattle.rules.specs.TableLaws.{tables_laid}
use Rattle.rules.proofs.tables.Tables.of.Goals as goal

pub returns : goal.returns
returns g c = search tables_laid
