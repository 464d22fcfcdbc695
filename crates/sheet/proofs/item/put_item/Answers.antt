-- `put_item` meets its contract. Assumes nothing.
use borrow.Author.Rules.{rules}
use lib.ListN.{length-set}
use Rattle.sheet.specs.SheetLaws.{item_put}
use Rattle.sheet.proofs.item.put_item.Goals as goal

pub bounds-out-k-2 : goal.bounds-out-k-2
bounds-out-k-2 c = simp length-set (search rules)

pub bounds-out-k-3 : goal.bounds-out-k-3
bounds-out-k-3 c = simp length-set (search rules)

pub bounds-out-k-4 : goal.bounds-out-k-4
bounds-out-k-4 c = simp length-set (search rules)

pub bounds-out-k-5 : goal.bounds-out-k-5
bounds-out-k-5 c = simp length-set (search rules)

pub returns : goal.returns
returns c = search item_put
