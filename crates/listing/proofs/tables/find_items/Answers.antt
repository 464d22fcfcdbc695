-- `find_items` meets its contract. Assumes nothing.
use Rattle.listing.specs.FoundLaws.{items_found, items_refused}
use borrow.Author.Rules.{rules}
use Rattle.listing.proofs.tables.find_items.Goals as goal

pub returns-in-Ok : goal.returns-in-Ok
returns-in-Ok c = search (items_found, rules)

pub returns-in-Err : goal.returns-in-Err
returns-in-Err c = search (items_refused, rules)
