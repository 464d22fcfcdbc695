-- `put_numbered` meets its contract. Assumes nothing.
use Rattle.listing.specs.Listing.{numbered_lines}
use Rattle.listing.proofs.scans.put_numbered.Goals as goal

pub put_items_of-requires-clause-room : goal.put_items_of-requires-clause-room
unfolding numbered_lines
put_items_of-requires-clause-room c = rw c.requires.set_value c.requires.room

pub returns : goal.returns
unfolding numbered_lines
returns c = rw c.requires.set_value at c.put_items_of.ensures
