-- `put_items` meets its contract. Assumes nothing.
use Rattle.listing.specs.PartLaws.{both_parts, part-first, part_second, part_both}
use Rattle.listing.specs.Listing.{marker_lines, numbered_lines}
use borrow.Author.Rules.{rules}
use Rattle.listing.proofs.scans.put_items.Goals as goal

pub put_markers-k-requires : goal.put_markers-k-requires
put_markers-k-requires c = search (part-first (both_parts marker_lines numbered_lines), rules)

pub put_numbered-requires : goal.put_numbered-requires
put_numbered-requires c = search (part_second (both_parts marker_lines numbered_lines), rules)

pub returns : goal.returns
returns c = search (part_both (both_parts marker_lines numbered_lines))
