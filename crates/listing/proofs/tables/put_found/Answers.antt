-- `put_found` meets its contract. Assumes nothing.
use Rattle.listing.specs.HeldLaws.{rowing_here, rowing_same, items-first, items_again, items_end}
use borrow.Author.Rules.{rules}
use Rattle.listing.proofs.tables.put_found.Goals as goal

pub loop-i-init : goal.loop-i-init
loop-i-init c = search items-first

pub put_item-k-requires : goal.put_item-k-requires
put_item-k-requires c = search rowing_here

pub loop-i-preserved : goal.loop-i-preserved
loop-i-preserved c = search (items_again, rules)

pub shape_of-out : goal.shape_of-out
shape_of-out c = search rowing_same

pub returns : goal.returns
returns c = search items_end
