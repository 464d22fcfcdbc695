-- `print_listing` meets its contract. Assumes nothing.
use Rattle.listing.specs.ListingLaws.{listing_within, listing_part}
use Rattle.spans.proofs.print_listing.Goals as goal

pub slice_bounds-write_all-end : goal.slice_bounds-write_all-end
slice_bounds-write_all-end g c = search listing_within

pub slice_bounds-write_all-end-in-Ok : goal.slice_bounds-write_all-end-in-Ok
slice_bounds-write_all-end-in-Ok g c = search listing_part
