-- `with_columns` meets its contract. Assumes nothing.
use Rattle.pour.specs.PourLaws.{poured_columns}
use Rattle.rules.specs.TableLaws.{tables_laid}
use Rattle.pour.proofs.building.with_columns.Goals as goal

pub returns : goal.returns
returns c = search (poured_columns, tables_laid)
