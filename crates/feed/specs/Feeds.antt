-- Both scanners as one run of items: where it begins, and what is taken of it. Assumes nothing.
-- The page: "both scanned from place 0", "by rising content start, the marker item first where two are equal".
use Rattle.std.specs.Prelude.{Bool, cond, List, ℕ, ltb, None, Option, Some}
use Rattle.common.specs.Refusals.{unless_none}
use Rattle.common.specs.declared.grammar.Grammar.{Grammar}
use Rattle.common.specs.Kinds.{ItemReading, scanner_of}
use Rattle.common.specs.Scanning.{answer, state}
use Rattle.common.specs.declared.scan.ItemIter.{ItemIter}
use Rattle.block_marker.specs.declared.Marker.{Marker}
use Rattle.block_numbered.specs.declared.Numbered.{Numbered}
use Rattle.block_marker.specs.Marker as marker
use Rattle.block_marker.specs.Marker.{BlockMarkerIter}
use Rattle.block_numbered.specs.Numbered as numbered
use Rattle.block_numbered.specs.Numbered.{BlockNumberedIter}
use Rattle.feed.specs.Items.{marked, counted}
use Rattle.feed.specs.declared.item.SheetItem.{SheetItem}
use Rattle.feed.specs.declared.Pick.{Pick}
use Rattle.feed.specs.declared.Pick.TheVariants as pick
use Rattle.feed.specs.declared.ItemsAhead.{ItemsAhead}
use Rattle.feed.specs.declared.Feed.{Feed}
use Rattle.feed.specs.declared.Taken.{Taken}

-- ---- one scanner, one item ahead
-- the head that a step's values make, by the item that they show; none at all is the end, and so is a refusal
abbrev pub head_by : (List ℕ → SheetItem) → List ℕ → Option SheetItem
head_by shown = unless_none None (λ l. Some (shown l))

module _ (K : Type 0) {A : Type 0} (r : ItemReading A) (shown : A → SheetItem) where
  abbrev pub shown_head : List ℕ → Option SheetItem
  shown_head = head_by (λ l. shown (r.back l))

  -- what a state's step answers as the head, and the state after it
  unfoldable pub after : List Bool → List ℕ → ItemIter K → ItemsAhead K
  after set s g = record { head = shown_head (answer (scanner_of K r) g set s).values; rest = state (scanner_of K r) g set s }

abbrev pub marks_after : List Bool → List ℕ → BlockMarkerIter → ItemsAhead Marker
marks_after = after Marker marker.reading marked

abbrev pub numbers_after : List Bool → List ℕ → BlockNumberedIter → ItemsAhead Numbered
numbers_after = after Numbered numbered.reading counted

-- ---- both
-- the beginning: "both scanned from place 0", by fresh states
unfoldable pub fresh_feed : Grammar → List Bool → List Bool → List ℕ → Feed
fresh_feed g markers delims s = record {
  marks = marks_after markers s (marker.fresh g.eol g.sep g.tab markers);
  numbers = numbers_after delims s (numbered.fresh g.eol g.sep g.tab delims);
}

-- which head is next: the one that starts first, the marker's where both start at one place
abbrev pub picked : Option SheetItem → Option SheetItem → Option Pick
picked (Some x) (Some y) = cond (ltb y.start x.start) (Some (pick.Number y)) (Some (pick.Mark x))
picked (Some x) None = Some (pick.Mark x)
picked None (Some y) = Some (pick.Number y)
picked None None = None

module _ (markers delims : List Bool) (s : List ℕ) where
  -- that head, and its scanner moved on
  abbrev pub taken_by : Option Pick → Feed → Taken
  taken_by (Some (pick.Mark x)) f = record { head = Some x; rest = record { marks = marks_after markers s f.marks.rest; numbers = f.numbers } }
  taken_by (Some (pick.Number y)) f = record { head = Some y; rest = record { marks = f.marks; numbers = numbers_after delims s f.numbers.rest } }
  taken_by None f = record { head = None; rest = f }

  unfoldable pub taken : Feed → Taken
  taken f = taken_by (picked f.marks.head f.numbers.head) f
