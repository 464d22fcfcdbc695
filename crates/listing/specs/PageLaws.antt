-- The items of a listing are those that the page declares: of the text's lines, by their bytes. Assumes nothing.
use Rattle.std.specs.Prelude.{◌≡◌, List, ℕ}
use Rattle.std.proofs.Common.{ap}
use Rattle.common.specs.Grammars.{house_marks, house_numbers}
use Rattle.block_marker.specs.Marker as marker
use Rattle.block_numbered.specs.Numbered as numbered
use Rattle.feed.specs.HouseLaws.{house_marks_lem, house-numbers}
use Rattle.listing.specs.Lines.{lines}
use Rattle.listing.specs.Listing.{marker_lines, numbered_lines}

-- "Optional separators and tabs, one accepted byte, one separator or tab; the span is the rest of the line."
pub marker-lines : (s : List ℕ) → marker_lines s ≡ lines 77 marker.values (marker.markers house_marks s)
unfolding marker_lines
marker-lines s = ap (lines 77 marker.values) (house_marks_lem s)

-- "As above with 1 to 9 ASCII digits and an accepted delimiter; ten digits reject."
pub numbered-lines : (s : List ℕ) → numbered_lines s ≡ lines 78 numbered.values (numbered.numbers house_numbers s)
unfolding numbered_lines
numbered-lines s = ap (lines 78 numbered.values) (house-numbers s)
