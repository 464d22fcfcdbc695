-- `count_by` meets its contract. Assumes nothing.
use Rattle.pour.specs.PourLaws.{counted-columns}
use Rattle.rules.specs.TableLaws.{tables_laid}
use Rattle.pour.proofs.counting.count_by.Goals as goal

pub returns : goal.returns
returns c = search (counted-columns, tables_laid)
