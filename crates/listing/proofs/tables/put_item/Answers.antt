-- `put_item` meets its contract. Assumes nothing.
use Rattle.listing.specs.HeldLaws.{item-marker, item-numbered}
use Rattle.listing.proofs.tables.put_item.Goals as goal

pub returns-then-kind-eq0 : goal.returns-then-kind-eq0
returns-then-kind-eq0 c = search item-marker

pub returns : goal.returns
returns c = search item-numbered
