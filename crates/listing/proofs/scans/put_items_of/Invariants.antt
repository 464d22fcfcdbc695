-- `put_items_of` meets its contract. Assumes nothing.
use Prim.Native.Nat.{◌-◌}
use Rattle.common.specs.Kinds.{scanner_of}
use Rattle.listing.specs.Listing.{item_lines_of}
use Rattle.listing.specs.Going.{ItemsGoing}
use Rattle.listing.proofs.scans.put_items_of.Given as goal

abbrev pub invariant-loop-i : goal.invariant-loop-i
invariant-loop-i g l =
    ItemsGoing (scanner_of g.row.K.Denot g.K.ItemKind.reading) l.set l.text g.K.ListingKind.letter (item_lines_of (scanner_of g.row.K.Denot g.K.ItemKind.reading) g.K.ListingKind.letter l.set l.text) l.n l.initial.out l.state l.out l.k

abbrev pub decreases-loop-i : goal.decreases-loop-i
decreases-loop-i g l = 1000000 - l.k
