-- `put_entries` meets its contract. Assumes nothing.
use Rattle.listing.specs.ListingLaws.{regions-room, later_room, entries_laid}
use borrow.Author.Rules.{rules}
use Rattle.common.specs.ClassLaws.{marker-set, delimiter_set}
use Rattle.listing.proofs.put_entries.Goals as goal

pub put_regions-k-requires-clause-room : goal.put_regions-k-requires-clause-room
put_regions-k-requires-clause-room c = search (regions-room, rules)

pub put_later-requires-clause-markers_value : goal.put_later-requires-clause-markers_value
put_later-requires-clause-markers_value c = search marker-set

pub put_later-requires-clause-delims_value : goal.put_later-requires-clause-delims_value
put_later-requires-clause-delims_value c = search delimiter_set

pub put_later-requires-clause-room : goal.put_later-requires-clause-room
put_later-requires-clause-room c = search (later_room, rules)

pub returns : goal.returns
returns c = search entries_laid
