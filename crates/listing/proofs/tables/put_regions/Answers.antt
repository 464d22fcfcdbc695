-- `put_regions` meets its contract. Assumes nothing.
use Rattle.listing.specs.HeldLaws.{rowing_here, rowing_same, regions-first, regions_again, regions_end}
use borrow.Author.Rules.{rules}
use Rattle.listing.proofs.tables.put_regions.Goals as goal

pub loop-i-init : goal.loop-i-init
loop-i-init c = search regions-first

pub put_two-k-requires : goal.put_two-k-requires
put_two-k-requires c = search rowing_here

pub loop-i-preserved : goal.loop-i-preserved
loop-i-preserved c = search (regions_again, rules)

pub shape_of-out : goal.shape_of-out
shape_of-out c = search rowing_same

pub returns : goal.returns
returns c = search regions_end
