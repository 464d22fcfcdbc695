-- `put_later` meets its contract. Assumes nothing.
use Rattle.listing.specs.PartLaws.{both_parts, part-first, part_second, part_both}
use Rattle.listing.specs.Listing.{sheet_lines}
use Rattle.listing.specs.Parts.{scan_lines}
use Rattle.listing.proofs.put_later.Goals as goal

pub put_scans-k-requires-clause-room : goal.put_scans-k-requires-clause-room
put_scans-k-requires-clause-room c = search (part-first (both_parts scan_lines sheet_lines))

pub put_sheet-requires-clause-room : goal.put_sheet-requires-clause-room
put_sheet-requires-clause-room c = search (part_second (both_parts scan_lines sheet_lines))

pub returns : goal.returns
returns c = search (part_both (both_parts scan_lines sheet_lines))
