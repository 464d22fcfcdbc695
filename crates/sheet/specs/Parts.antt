-- What the parts of a work sheet ask and promise. Assumes nothing.
-- The page's sentences stand in Sheet.antt; here are its parts, a function each.
use Rattle.std.specs.Prelude.{◌≡◌, Bool, true, false, List, [], ◌∷◌, map, ℕ, ◌≤◌, ◌<◌, ltb, cond, length, Err, None, Ok, Option, Result, Some}
use Rattle.common.specs.Entry.{rows, room, Shaped, wide}
use Rattle.common.specs.Refusals.{too_long}
use Rattle.common.specs.declared.grammar.Grammar.{Grammar}
use Rattle.common.specs.declared.refusal.Refusal.TheVariants.{TextTooLong, ListMisshapen, NoRoom}
use Rattle.cover.specs.Cursor.{Rising, Ended, cover_answer, cover_next}
use Rattle.cover.specs.Shape.{misshapen}
use Rattle.feed.specs.Items.{tested_place}
use Rattle.feed.specs.Ahead.{Within, ahead}
use Rattle.feed.specs.Feeds.{fresh_feed, taken}
use Rattle.sheet.specs.Sheet.{inside, outside, sheet_of}
use Rattle.feed.specs.declared.item.SheetItem.{SheetItem}
use Rattle.feed.specs.declared.Feed.{Feed}
use Rattle.sheet.specs.declared.Query.{Query}
use Rattle.sheet.specs.declared.item.Seen.{Seen}
use Rattle.sheet.specs.declared.item.Seen.TheVariants as seen
use Rattle.sheet.specs.declared.Walk.{Walk}
use Rattle.sheet.specs.declared.SheetStep.{SheetStep}
use Rattle.common.specs.declared.refusal.Refusal.{Refusal}

-- ---- the items, whatever the regions come from
-- what a turn tells, and the items behind it
abbrev pub seen_then : Seen → List SheetItem → List SheetItem
seen_then (seen.Shown i) l = i ∷ l
seen_then seen.Hidden l = l
seen_then seen.End l = []

-- what holds unless that was the end
abbrev pub Beyond : Seen → Type 0 → Type 0
Beyond (seen.Shown i) P = P
Beyond seen.Hidden P = P
Beyond seen.End P = Unit {0}

module _ (markers delims : List Bool) (s : List ℕ) where
  -- the items ahead that no region hides
  unfoldable pub left : List (List ℕ) → Feed → List SheetItem
  left regions f = outside regions (ahead markers delims s f)

  -- scanners that may go on: no content ahead starts before `low`, the last place that was asked for
  pub record Onward (low : ℕ) (f : Feed) : Type 0 where
    pub within : Within f (length s)
    pub rising : Rising low (map tested_place (ahead markers delims s f))
    pub few : length (ahead markers delims s f) ≤ length s

  -- what a turn from the scanners f to f' tells of the items left, and, unless that was the end, what lets it go on, with fewer ahead
  pub record Turned (regions : List (List ℕ)) (Goes : Type 0) (f : Feed) (x : Seen) (f' : Feed) : Type 0 where
    pub same : left regions f ≡ seen_then x (left regions f')
    pub goes : Beyond x (Goes × (length (ahead markers delims s f') < length (ahead markers delims s f)))

-- ---- with the list
-- a list with its first n regions in order
pub record SortedRows (l : List ℕ) (n : ℕ) : Type 0 where
  pub fits : n ≤ room wide l
  pub len : ℕ
  pub order : Shaped 0 len (rows wide n l)

-- whether a query found a region
abbrev pub is_at : Result (Option ℕ) Refusal → Bool
is_at (Ok (Some q)) = true
is_at (Ok None) = false
is_at (Err r) = false

-- whether a place is inside a region, and an index for the places from there on
pub record Hid (l : List ℕ) (n place : ℕ) (q : Query) : Type 0 where
  pub hidden : q.hidden ≡ inside (rows wide n l) place
  pub ended : Ended wide l n q.index place

-- whether a list of ends has one
unfoldable pub some : List ℕ → Bool
some [] = false
some (x ∷ l) = true

-- what a query of an item answers: whether a region hides it, and the next index
abbrev pub asked : List ℕ → ℕ → ℕ → SheetItem → Query
asked l n index i = record {
  hidden = some (cover_answer wide l n index (tested_place i)).values;
  index = cover_next wide l n index (tested_place i);
}

-- what a turn answers from an index on, by the item that was taken, and by the scanners that are left
abbrev pub seen_by : List ℕ → ℕ → ℕ → Feed → Option SheetItem → SheetStep
seen_by l n index f None = record { seen = seen.End; rest = record { feed = f; index = index } }
seen_by l n index f (Some i) =
    let q = asked l n index i in
    record { seen = cond q.hidden seen.Hidden (seen.Shown i); rest = record { feed = f; index = q.index } }

-- the refusal that the text and the list decide, 1 or 5, if any
abbrev pub judgement : List ℕ → ℕ → List ℕ → Option Refusal
judgement l n s = cond (too_long s) (Some TextTooLong) (cond (misshapen l n (length s)) (Some ListMisshapen) None)

-- the promise of judging them: that refusal, or something that keeps P
abbrev pub Judges : {J : Type 0} → (J → Type 0) → List ℕ → ℕ → List ℕ → Result J Refusal → Type 0
Judges P l n s (Ok j) = P j
Judges P l n s (Err r) = judgement l n s ≡ Some r

-- scanners and a cursor at the beginning of a sheet, or refusal 1 or 5
abbrev pub begun : Grammar → List Bool → List Bool → List ℕ → ℕ → List ℕ → Result Walk Refusal
begun g markers delims l n s =
    cond (too_long s) (Err TextTooLong)
    (cond (misshapen l n (length s)) (Err ListMisshapen)
    (Ok (record { feed = fresh_feed g markers delims s; index = 0 })))

-- the same, or 3 where k items are more than there may be
abbrev pub at_most : ℕ → ℕ → Result Walk Refusal → Result Walk Refusal
at_most most k (Err r) = Err r
at_most most k (Ok w) = cond (ltb most k) (Err NoRoom) (Ok w)

-- that of a sheet that may have no more than `most` items
abbrev pub begun_within : Grammar → List Bool → List Bool → List ℕ → ℕ → List ℕ → ℕ → Result Walk Refusal
begun_within g markers delims l n s most = at_most most (length (sheet_of g markers delims l n s)) (begun g markers delims l n s)

module _ (markers delims : List Bool) (l : List ℕ) (n : ℕ) (s : List ℕ) where
  -- what a turn answers
  abbrev pub turned : Walk → SheetStep
  turned w = let t = taken markers delims s w.feed in seen_by l n w.index t.rest t.head

  -- scanners and a cursor that may go on
  pub record Ready (w : Walk) : Type 0 where
    pub low : ℕ
    pub onward : Onward markers delims s low w.feed
    pub orderly : SortedRows l n
    pub ended : Ended wide l n w.index low

  -- the promise of a turn
  abbrev pub TurnedBy : Walk → SheetStep → Type 0
  TurnedBy w t = Turned markers delims s (rows wide n l) (Ready t.rest) w.feed t.seen t.rest.feed
