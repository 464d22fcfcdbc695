-- `put_sheet` meets its contract. Assumes nothing.
use Rattle.listing.specs.HeldLaws.{filed_room, filed_laid}
use borrow.Author.Rules.{rules}
use Rattle.listing.proofs.tables.put_sheet.Goals as goal

pub put_found-requires : goal.put_found-requires
put_found-requires c = search (filed_room, rules)

pub returns : goal.returns
returns c = search filed_laid
