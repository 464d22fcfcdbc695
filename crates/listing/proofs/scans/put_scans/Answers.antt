-- `put_scans` meets its contract. Assumes nothing.
use Rattle.listing.specs.PartLaws.{both_parts, part-first, part_second, part_both}
use Rattle.listing.specs.Parts.{span_lines, item_lines}
use borrow.Author.Rules.{rules}
use Rattle.listing.proofs.scans.put_scans.Goals as goal

pub put_spans-k-requires : goal.put_spans-k-requires
put_spans-k-requires c = search (part-first (both_parts span_lines item_lines), rules)

pub put_items-requires-clause-room : goal.put_items-requires-clause-room
put_items-requires-clause-room c = search (part_second (both_parts span_lines item_lines))

pub returns : goal.returns
returns c = search (part_both (both_parts span_lines item_lines))
