-- The listing of a text by the house grammar. Assumes nothing.
-- The page: "`R` start end; `F` start end fence byte (backtick fences first); `C` start end; `M` start end marker byte; `N` start end
-- delimiter number; then `W` for sheet items, with their M or N fields.", and "more than 8,192 bytes, the program's own limit, prints
-- only `X<TAB>1`."
use Rattle.std.specs.Prelude.{◌≡◌, Bool, cond, List, [], ◌∷◌, ◌++◌, ℕ, eqb, ltb, length, get_or}
use Rattle.common.specs.Lists.{filled_by}
use Rattle.common.specs.Entry.{flatten}
use Rattle.common.specs.Grammars.{house}
use Rattle.common.specs.Refusals.{Outcome, given, refuse, span_values}
use Rattle.common.specs.Sets.{house_markers, house_delims}
use Rattle.fence.specs.Fence as fence
use Rattle.fence.specs.declared.FenceIter.{FenceIter}
use Rattle.cont.specs.Frames.{frames}
use Rattle.cont.specs.Cont as cont
use Rattle.cont.specs.declared.Framing.{Framing}
use Rattle.common.specs.Scanning.{Scanner, fresh, items}
use Rattle.block_marker.specs.Marker as marker
use Rattle.block_numbered.specs.Numbered as numbered
use Rattle.region.specs.Region.{Caused, row_of}
use Rattle.rules.specs.Columns.{Columns, gram_of}
use Rattle.rules.specs.Grammar.{Gram}
use Rattle.region.specs.Regions as region
use Rattle.sheet.specs.Sheet.{five, sheet_of}
use Rattle.feed.specs.declared.item.SheetItem.{SheetItem}
use Rattle.listing.specs.Lines.{line, lines}

-- ---- "House grammar: line end 10, escape 92, separator 32, tab 9" (`house`)
-- "fences backtick and tilde, min 3; symmetric backtick, count 1; asymmetric `<` `>`, count 1"
abbrev pub house_rules : Columns
house_rules = record {
  fence_bytes = 96 ∷ 126 ∷ [];
  fence_mins = 3 ∷ 3 ∷ [];
  inline = record {
    sym_bytes = 96 ∷ [];
    sym_counts = 1 ∷ [];
    openers = 60 ∷ [];
    closers = 62 ∷ [];
    open_counts = 1 ∷ [];
  };
}

-- the grammar of its regions
abbrev pub house_gram : Gram
house_gram = gram_of house house_rules

-- a fresh scanner of the fences of a byte: "min 3"
abbrev pub house_fence : ℕ → FenceIter
house_fence byte = fence.fresh byte 3 house.eol house.sep house.tab

-- "continuation `>`", to a depth
abbrev pub house_framing : ℕ → Framing
house_framing nest = cont.framing_of (cont.fresh 62 house.eol house.sep house.tab nest)

-- ---- "`R` start end"
unfoldable pub house_regions : List ℕ → List Caused
house_regions s = region.regions house_gram s

unfoldable pub region_lines : List ℕ → List ℕ
region_lines s = lines 82 row_of (house_regions s)

-- ---- "`F` start end fence byte"
abbrev pub fence_fields : ℕ → fence.Fence → List ℕ
fence_fields byte f = f.start ∷ f.end ∷ byte ∷ []

unfoldable pub fence_lines_of : ℕ → List ℕ → List ℕ
fence_lines_of byte s = lines 70 (fence_fields byte) (fence.fences (house_fence byte) s)

-- ---- "`C` start end": "continuation `>`, nest 8"
unfoldable pub frame_lines : List ℕ → List ℕ
frame_lines s = lines 67 span_values (frames (house_framing 8) s)

-- ---- items, a line of their values for each: all that a fresh state has before it
abbrev pub item_lines_of : {S A : Type 0} → Scanner S A → ℕ → List Bool → List ℕ → List ℕ
item_lines_of c letter set s = lines letter c.values (items c (fresh c house.eol house.sep house.tab set) set s)

-- "`M` start end marker byte"
unfoldable pub marker_lines : List ℕ → List ℕ
marker_lines s = item_lines_of marker.scanner 77 house_markers s

-- "`N` start end delimiter number"
unfoldable pub numbered_lines : List ℕ → List ℕ
numbered_lines s = item_lines_of numbered.scanner 78 house_delims s

-- ---- "then `W` for sheet items, with their M or N fields"
-- the fields of an item's five numbers, which are start, end, kind, byte and number: kind 0 is a marker
abbrev pub row_fields : List ℕ → List ℕ
row_fields r = cond (eqb (get_or r 2 0) 0) (get_or r 0 0 ∷ get_or r 1 0 ∷ get_or r 3 0 ∷ []) (get_or r 0 0 ∷ get_or r 1 0 ∷ get_or r 3 0 ∷ get_or r 4 0 ∷ [])

abbrev pub sheet_row : SheetItem → List ℕ
sheet_row i = row_fields (five i)

-- the work sheet by the list of the text's regions
unfoldable pub house_sheet : List ℕ → List SheetItem
house_sheet s = sheet_of house house_markers house_delims (flatten row_of (house_regions s)) (length (house_regions s)) s

unfoldable pub sheet_lines : List ℕ → List ℕ
sheet_lines s = lines 87 sheet_row (house_sheet s)

-- ---- the listing
-- "`R` …; `F` … (backtick fences first); `C` …; `M` …; `N` …; then `W` …"
unfoldable pub entries : List ℕ → List ℕ
entries s = region_lines s ++ (fence_lines_of 96 s ++ (fence_lines_of 126 s ++ (frame_lines s ++ (marker_lines s ++ (numbered_lines s ++ sheet_lines s)))))

-- "more than 8,192 bytes, the program's own limit, prints only `X<TAB>1`"
unfoldable pub printed : List ℕ → List ℕ
printed s = cond (ltb 8192 (length s)) (line 88 (1 ∷ [])) (entries s)

-- ---- what is promised
-- 3 where the run is too small for the listing; else the number of bytes written
unfoldable pub listing_answer : List ℕ → List ℕ → Outcome
listing_answer s out = refuse 3 (ltb (length out) (length (printed s))) (given (length (printed s) ∷ []))

-- the listing over the front of the run, and nothing beyond it changed; a refusal changes nothing
unfoldable pub listing_run : List ℕ → List ℕ → List ℕ
listing_run s out = filled_by (listing_answer s out) (printed s) out

pub record Printed (s out out' : List ℕ) (o : Outcome) : Type 0 where
  pub answer : o ≡ listing_answer s out
  pub run : out' ≡ listing_run s out
