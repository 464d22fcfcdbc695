-- `put_fences` meets its contract. There is room in either order of the bytes, so that an edit which turns the order round is refused for the order. Assumes nothing.
use Rattle.listing.specs.PartLaws.{both_parts, part-first, part_second, part_both, part_last, part_before}
use Rattle.listing.specs.Listing.{fence_lines_of}
use borrow.Author.Rules.{rules}
use Rattle.listing.proofs.scans.put_fences.Goals as goal

pub put_fences_of-k-requires : goal.put_fences_of-k-requires
put_fences_of-k-requires c = search (part-first (both_parts (fence_lines_of 96) (fence_lines_of 126)), part_last (both_parts (fence_lines_of 96) (fence_lines_of 126)), rules)

pub put_fences_of-requires : goal.put_fences_of-requires
put_fences_of-requires c = search (part_second (both_parts (fence_lines_of 96) (fence_lines_of 126)), part_before (both_parts (fence_lines_of 96) (fence_lines_of 126)), rules)

pub returns : goal.returns
returns c = search (part_both (both_parts (fence_lines_of 96) (fence_lines_of 126)))
