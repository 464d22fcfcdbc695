-- The marked examples, all under one statement: the table computes from the definitions. Assumes nothing.
-- The page: "P1 to P12 are proved from the definitions together, as one table under a single statement."
use Rattle.std.specs.Prelude.{refl}
use Rattle.search.specs.Search.{is, either, one_of, other, holds, first_of, first_place, find, back, line_start, digit}
use Rattle.lines.specs.Fences.{opens_line, closes_to, closing}
use Rattle.lines.specs.Reader.{shuts, reader}
use Rattle.lines.specs.Paragraph.{ends_at, paragraph_end, next_in}
use Rattle.common.specs.Turn.{scan, collect, gather}
use Rattle.common.specs.Turning.{Each}
use Rattle.region.specs.Regions.{shut_place, odd_before, sym_turn, asym_turn, inline, region_turn, regions_from, regions}
use Rattle.rules.specs.Columns.{searched, open_rule, sym_rule}
use Rattle.fence.specs.Fence.{begins, opens, closes, close_end, next_fence, fences}
use Rattle.common.specs.Items.{leading, beyond, item_at, items_of}
use Rattle.decimal.specs.Decimal.{valued_from}
use Rattle.block_numbered.specs.Numbered.{number_line}
use Rattle.cont.specs.Frames.{mark_at, after_mark, marks_from, line_marks, open_start, ending, frames}
use Rattle.region.specs.Region.{reaches, keep_before, keep_from}
use Rattle.cover.specs.Shape.{misshapen}
use Rattle.amend.specs.Amend.{joint}
use Rattle.amend.specs.Amended.{regions_in, amended_regions, off_joint, left_open, judged_edit, judged, settled_answer, amend_answer, amended_answer}
use Rattle.listing.specs.Listing.{house_regions}
use Rattle.marked.specs.Page.{Says, page}

pub marked : Each Says page
unfolding is either one_of other holds first_of first_place find back line_start opens_line closes_to closing shuts reader ends_at paragraph_end next_in scan collect shut_place odd_before sym_turn asym_turn inline region_turn regions_from regions house_regions searched open_rule sym_rule begins opens closes close_end next_fence fences leading beyond item_at items_of digit valued_from number_line mark_at after_mark marks_from line_marks open_start ending frames gather reaches keep_before keep_from joint regions_in amended_regions misshapen off_joint left_open judged_edit judged settled_answer amend_answer amended_answer
marked = (refl, (refl, (refl, (refl, (refl, (refl, (refl, (refl, (refl, (refl, (refl, (refl, (refl, (refl, (refl, (refl, (refl, (refl, (record { answer = refl; list = refl }, (record { answer = refl; list = refl }, (record { answer = refl; list = refl }, (record { answer = refl; list = refl }, (refl, (record { answer = refl; list = refl }, tt))))))))))))))))))))))))
