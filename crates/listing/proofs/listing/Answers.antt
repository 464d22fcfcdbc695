-- `listing` meets its contract. Assumes nothing.
use Rattle.listing.specs.ListingLaws.{listing_refused, listing_fits, listing_large}
use Rattle.listing.proofs.listing.Goals as goal

pub returns-then-out-size : goal.returns-then-out-size
returns-then-out-size c = search listing_refused

pub returns-then-out-lt-MOST_LISTED : goal.returns-then-out-lt-MOST_LISTED
returns-then-out-lt-MOST_LISTED c = search listing_fits

pub returns : goal.returns
returns c = search listing_large
