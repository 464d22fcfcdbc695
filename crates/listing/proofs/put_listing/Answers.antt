-- `put_listing` meets its contract. Assumes nothing.
use Rattle.listing.specs.ListingLaws.{printed-over, printed-entries}
use Rattle.listing.proofs.put_listing.Goals as goal

pub returns-then-text-gt-MOST_TEXT : goal.returns-then-text-gt-MOST_TEXT
returns-then-text-gt-MOST_TEXT c = search printed-over

pub returns : goal.returns
returns c = search printed-entries
