-- Examples of document 02's requests, computed from the definitions by the house grammar. Assumes nothing.
use Rattle.std.specs.Prelude.{◌≡◌, refl, List, [], ◌∷◌, ℕ}
use Rattle.search.specs.Search.{is, either, one_of, other, holds, first_of, first_place, find, back, line_start, digit}
use Rattle.lines.specs.Fences.{opens_line, closes_to, closing}
use Rattle.lines.specs.Reader.{shuts, reader}
use Rattle.lines.specs.Paragraph.{ends_at, paragraph_end, next_in}
use Rattle.common.specs.Entry.{flatten}
use Rattle.common.specs.Turn.{scan, collect}
use Rattle.common.specs.Rules.{tabulate}
use Rattle.common.specs.Sets.{accepted_from}
use Rattle.common.specs.Scanning.{turn}
use Rattle.common.specs.Items.{leads}
use Rattle.rules.specs.Columns.{searched, open_rule, sym_rule}
use Rattle.region.specs.Regions.{shut_place, odd_before, sym_turn, asym_turn, inline, region_turn, regions_from, regions}
use Rattle.decimal.specs.Decimal.{valued_from}
use Rattle.block_marker.specs.Marker as marker
use Rattle.block_numbered.specs.Numbered as numbered
use Rattle.feed.specs.Items.{mark_items_from, numbered_items_from, merge}
use Rattle.sheet.specs.Sheet.{inside, outside, sheet_of, five}
use Rattle.listing.specs.Listing.{house_regions, house_sheet}

-- the items of a text's work sheet, five numbers each
abbrev shown : List ℕ → List ℕ
shown s = flatten five (house_sheet s)

-- request 2: "A step written as a number, a full stop, a blank and then a part name in backticks isn't on the sheet." Now it is: 1. `K7` set
code_word : shown (49 ∷ 46 ∷ 32 ∷ 96 ∷ 75 ∷ 55 ∷ 96 ∷ 32 ∷ 115 ∷ 101 ∷ 116 ∷ []) ≡ 3 ∷ 11 ∷ 1 ∷ 46 ∷ 1 ∷ []
unfolding is either one_of other holds first_of first_place find back line_start digit opens_line closes_to closing shuts reader ends_at paragraph_end next_in scan collect tabulate accepted_from turn leads searched open_rule sym_rule shut_place odd_before sym_turn asym_turn inline region_turn regions_from regions valued_from marker.stream_turn numbered.stream_turn mark_items_from numbered_items_from merge inside outside sheet_of house_regions house_sheet
code_word = refl

-- and an empty item at the end of a fence that nothing closes is not: ~~~, - and a blank
open_fence : shown (126 ∷ 126 ∷ 126 ∷ 10 ∷ 45 ∷ 32 ∷ []) ≡ []
unfolding is either one_of other holds first_of first_place find back line_start digit opens_line closes_to closing shuts reader ends_at paragraph_end next_in scan collect tabulate accepted_from turn leads searched open_rule sym_rule shut_place odd_before sym_turn asym_turn inline region_turn regions_from regions valued_from marker.stream_turn numbered.stream_turn mark_items_from numbered_items_from merge inside outside sheet_of house_regions house_sheet
open_fence = refl
