-- What the work sheet of a text by its rules answers and writes. Assumes nothing.
-- The page: "It holds the marker and numbered items, both scanned from place 0", without those whose tested byte (request 2) is inside one of
-- the regions of the text's own rules.
use Rattle.std.specs.Prelude.{◌≡◌, Bool, cond, List, map, ℕ, ◌+◌, ◌*◌, ltb, length}
use Rattle.common.specs.Entry.{flatten, room, put_at}
use Rattle.common.specs.Sets.{set_of}
use Rattle.common.specs.declared.grammar.Grammar.{Grammar}
use Rattle.region.specs.Region.{Caused, row_of}
use Rattle.rules.specs.Grammar.{Gram}
use Rattle.region.specs.Regions.{regions, built_by}
use Rattle.sheet.specs.Sheet.{five, sheet_of}
use Rattle.sheet.specs.Parts.{left, Onward, Turned}
use Rattle.feed.specs.declared.item.SheetItem.{SheetItem}
use Rattle.cells.specs.Bytes.{four}
use Rattle.cells.specs.Poured.{ListRuns, PouredAs, BuiltAs, CountedAs}
use Rattle.rules.specs.ByteRules.{ColumnRuns, uneven_columns, columns_in}
use Rattle.region.specs.MemoryLaws.{Sound}
use Rattle.sheeting.specs.Hiding.{HidesFrom}
use Rattle.sheeting.specs.declared.Sieve.{Sieve}
use Rattle.sheeting.specs.declared.Sieved.{Sieved}

-- "An item is five numbers", here of four bytes each
abbrev pub item_bytes : SheetItem → List ℕ
item_bytes i = flatten four (five i)

-- item n written as row n of a list where there is room for it, and the next item's number; else nothing is changed, and it is n
pub record ItemPut (i : SheetItem) (n : ℕ) (out out' : List ℕ) (r : ℕ) : Type 0 where
  pub next : r ≡ cond (ltb n (room 20 out)) (n + 1) n
  pub list : out' ≡ cond (ltb n (room 20 out)) (put_at (n * 20) (item_bytes i) out) out

-- "The work sheet takes a text, the grammar bytes, the marker and delimiter sets and a list": the list as building writes it, region by region
abbrev pub sheet_with : Grammar → List Bool → List Bool → List Caused → List ℕ → List SheetItem
sheet_with g markers delims l s = sheet_of g markers delims (flatten row_of l) (length l) s

-- a sheet that is past the refusals of text and rules
abbrev pub SheetPoured : List SheetItem → ListRuns → ListRuns → ℕ → Type 0
SheetPoured l before after r = PouredAs item_bytes 20 l before after r

-- the promise of the entry, in building's order: the sheet, by the accepted marker and delimiter bytes, with the list of the regions that the
-- columns build
abbrev pub SheetBytes : Grammar → ColumnRuns → List ℕ → List ℕ → List ℕ → ListRuns → ListRuns → ℕ → Type 0
SheetBytes g c markers delims s before after r =
    BuiltAs item_bytes 20 (uneven_columns c) (sheet_with g (set_of markers) (set_of delims) (built_by g (columns_in c) s) s) s before after r

-- how many items that sheet would have
abbrev pub SheetCounted : Grammar → ColumnRuns → List ℕ → List ℕ → List ℕ → List ℕ → List ℕ → ℕ → Type 0
SheetCounted g c markers delims s run run' r =
    CountedAs (uneven_columns c) (sheet_with g (set_of markers) (set_of delims) (built_by g (columns_in c) s) s) s run run' r

-- ---- the parts
module _ (g : Gram) (markers delims : List Bool) (s : List ℕ) where
  -- the items ahead that no region of the text hides
  abbrev pub left_by : Sieve → List SheetItem
  left_by w = left markers delims s (map row_of (regions g s)) w.feed

  -- scanners and a region that may go on
  pub record SieveReady (w : Sieve) : Type 0 where
    pub low : ℕ
    pub onward : Onward markers delims s low w.feed
    pub hides : HidesFrom g s low w.hider

  -- the same with a memory m that tells the truth from where the scan of regions goes on
  pub record ReadyBy (m : List ℕ) (w : Sieve) : Type 0 where
    pub ready : SieveReady w
    pub sound : Sound g s m w.hider.next

  -- the promise of a turn, which leaves such a memory
  abbrev pub SieveTurned : List ℕ → Sieve → Sieved → Type 0
  SieveTurned m w t = Turned markers delims s (map row_of (regions g s)) (ReadyBy m t.rest) w.feed t.seen t.rest.feed
