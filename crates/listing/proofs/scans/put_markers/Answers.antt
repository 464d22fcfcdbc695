-- `put_markers` meets its contract. Assumes nothing.
use Rattle.listing.specs.Listing.{marker_lines}
use Rattle.listing.proofs.scans.put_markers.Goals as goal

pub put_items_of-requires-clause-room : goal.put_items_of-requires-clause-room
unfolding marker_lines
put_items_of-requires-clause-room c = rw c.requires.set_value c.requires.room

pub returns : goal.returns
unfolding marker_lines
returns c = rw c.requires.set_value at c.put_items_of.ensures
