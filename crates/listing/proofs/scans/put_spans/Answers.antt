-- `put_spans` meets its contract. Assumes nothing.
use Rattle.listing.specs.PartLaws.{both_parts, part-first, part_second, part_both}
use Rattle.listing.specs.Listing.{frame_lines}
use Rattle.listing.specs.Parts.{fence_lines}
use borrow.Author.Rules.{rules}
use Rattle.listing.proofs.scans.put_spans.Goals as goal

pub put_fences-k-requires : goal.put_fences-k-requires
put_fences-k-requires c = search (part-first (both_parts fence_lines frame_lines), rules)

pub put_frames-requires : goal.put_frames-requires
put_frames-requires c = search (part_second (both_parts fence_lines frame_lines), rules)

pub returns : goal.returns
returns c = search (part_both (both_parts fence_lines frame_lines))
