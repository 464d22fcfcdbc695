-- `find_regions` meets its contract. Assumes nothing.
use Rattle.listing.specs.FoundLaws.{regions_found, regions-refused}
use borrow.Author.Rules.{rules}
use Rattle.listing.proofs.tables.find_regions.Goals as goal

pub returns-in-Ok : goal.returns-in-Ok
returns-in-Ok c = search (regions_found, rules)

pub returns-in-Err : goal.returns-in-Err
returns-in-Err c = search (regions-refused, rules)
