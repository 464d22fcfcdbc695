-- What the marker scanner finds. Assumes nothing.
-- The page: "Optional separators and tabs, one accepted byte, one separator or tab; the span is the rest of the line."
use Rattle.std.specs.Prelude.{Bool, cond, ◌&&◌, List, [], ◌∷◌, ℕ, ◌+◌, ltb, length, get_or, take, Option, Result}
use Rattle.std.proofs.Math.Seq.{slice}
use Rattle.search.specs.Promise.{Gives}
use Rattle.search.specs.Search.{either, one_of, holds, find, line_end, after_line}
use Rattle.common.specs.Refusals.{Outcome, given, refused, too_long, past}
use Rattle.common.specs.Turn.{Turn, go, found, Step}
use Rattle.common.specs.Items.{ItemGrammar, grammar, blank, has, leading, beyond, leads, item_from, items_of, read_turn, hit_turn, step_for}
use Rattle.common.specs.Scanning.{Scanner, Keeps, KeepsFrom, on_from, of_line}
use Rattle.common.specs.Scanning as scanning
use Rattle.common.specs.Kinds.{ItemReading, scanner_of, told_by}
use Rattle.common.specs.declared.scan.ItemIter.{ItemIter}
use Rattle.common.specs.declared.scan.Step as code
use Rattle.common.specs.declared.span.Span.{Span}
use Rattle.block_marker.specs.declared.Marker.{Marker}
use Rattle.block_marker.specs.declared.MarkerItem.{MarkerItem}
use Rattle.common.specs.declared.refusal.Refusal.{Refusal}

-- the item of a marker, with the span of its content
abbrev pub mark : ℕ → ℕ → ℕ → MarkerItem
mark marker start end = record { marker = marker; span = record { start = start; end = end } }

-- ---- all marker items of a text, by the bytes of its lines
-- the item of a line whose bytes are l, the first of them at a: "Optional separators and tabs, one accepted byte, one separator or tab; the
-- span is the rest of the line."
unfoldable pub mark_line : ItemGrammar → ℕ → List ℕ → List MarkerItem
mark_line g a l = item_from g mark (a + length (leading (blank g) l)) (beyond (blank g) l)

-- the items of all lines, in the lines' order
abbrev pub markers : ItemGrammar → List ℕ → List MarkerItem
markers g s = items_of g (mark_line g) s

-- ---- the streaming scan
-- an accepted byte at p: an item, if only separators and tabs stand before it on its line and one behind it; else nothing more on that
-- line
abbrev pub stream_hit : ItemGrammar → List ℕ → ℕ → Turn MarkerItem
stream_hit g s p =
    cond (leads g.eol g.sep g.tab s p && holds (blank g) s (p + 1))
    (found (mark (get_or s p 0) (p + 2) (line_end g.eol s (p + 2))) (after_line g.eol s (p + 2)))
    (go (after_line g.eol s p))

-- what is promised of such a byte, whatever else the scan accepts
pub record HitSays (eol sep tab : ℕ) (s : List ℕ) (p : ℕ) (r : Turn MarkerItem) : Type 0 where
  pub hit : (t : ℕ → Bool) → Gives (stream_hit (grammar eol sep tab t) s p) r

-- one turn at q: the next accepted byte, and what it leads; where there is none the scan stays
unfoldable pub stream_turn : ItemGrammar → List ℕ → ℕ → Turn MarkerItem
stream_turn g s q = hit_turn g (stream_hit g s) s q

-- ---- the line scan: one turn at q, taken for a line's start
abbrev pub line_turn : ItemGrammar → List ℕ → ℕ → Turn MarkerItem
line_turn g s q = read_turn g (mark_line g) s q

-- ---- the step
-- an item's values: the start and end of its content, and the marker byte
abbrev pub values : MarkerItem → List ℕ
values i = i.span.start ∷ i.span.end ∷ i.marker ∷ []

-- how its items are read
abbrev pub reading : ItemReading MarkerItem
reading = record { streams = stream_turn; lines = line_turn; values = values; back = λ l. mark (get_or l 2 0) (get_or l 0 0) (get_or l 1 0) }

-- a state, and the scanner
abbrev pub BlockMarkerIter : Type 0
BlockMarkerIter = ItemIter Marker

abbrev pub scanner : Scanner BlockMarkerIter MarkerItem
scanner = scanner_of Marker reading

-- a fresh state
abbrev pub fresh : ℕ → ℕ → ℕ → List Bool → BlockMarkerIter
fresh = scanning.fresh scanner

-- what a step answers, and the state after it
abbrev pub answer : BlockMarkerIter → List Bool → List ℕ → Outcome
answer = scanning.answer scanner

abbrev pub state : BlockMarkerIter → List Bool → List ℕ → BlockMarkerIter
state = scanning.state scanner

-- ---- the step in one place
-- what `next` promises of a state g, a set and a text s, in the order of its tests: what it answers, and the state after it. `next-unfolded`
-- (MarkerRun.antt) shows that it is the promise
abbrev pub unfolded : BlockMarkerIter → List Bool → List ℕ → Outcome × BlockMarkerIter
unfolded g set s =
    -- the state's place, the first accepted byte from there on, and where the line begins that follows a place's line
    let q = g.pos in
    let p = find (one_of (take g.nn g.needles)) s q in
    let below : ℕ → ℕ = after_line g.eol s in
    -- the text is too long: 1, and the state as it was
    cond (too_long s) (refused 1, g)
    -- the place is past the text: 2, and the state as it was
    (cond (past s q) (refused 2, g)
    -- "in a handmade state its flag decides". The streaming scan, where there is an accepted byte p:
    (cond g.streaming
    (cond (ltb p (length s))
    -- only separators and tabs stand before it on its line, and one behind it: its item, with the rest of the line, and the next line
    (cond (leads g.eol g.sep g.tab s p && holds (either g.sep g.tab) s (p + 1))
    (given ((p + 2) ∷ line_end g.eol s (p + 2) ∷ get_or s p 0 ∷ []), scanning.at scanner g (below (p + 2)))
    -- else what the state answers from the next line on
    (on_from scanner g set s (below p)))
    -- where there is none: nothing, and the state stays
    (given [], g))
    -- the line scan, before the text's end: the item that the bytes of the line from q on make, and the next line; where they make none,
    -- what the state answers from the next line on
    (cond (ltb q (length s))
    (of_line scanner g set s (mark_line (grammar g.eol g.sep g.tab (has set)) q (slice q (line_end g.eol s q) s)) (below q))
    -- at the text's end: nothing, and the state stays
    (given [], g))))

-- ---- what the code's values stand for
-- the item of what leads its line, and of its span
abbrev pub make : ℕ → Span → MarkerItem
make marker span = record { marker = marker; span = span }

abbrev pub told : Result (Option MarkerItem) Refusal → Outcome
told = told_by values

-- ---- the run
-- what a step answers, and the state after it
abbrev pub MarkerStep : Type 0
MarkerStep = code.Step MarkerItem BlockMarkerIter

-- the promise of `next` for its result
abbrev pub Kept : BlockMarkerIter → List Bool → List ℕ → MarkerStep → Type 0
Kept g set s r = Keeps scanner g set s (told r.found) r.next

-- a `next` that keeps that promise of a state wherever it stands in the text
abbrev pub KeptFrom : BlockMarkerIter → List Bool → List ℕ → (BlockMarkerIter → MarkerStep) → Type 0
KeptFrom g set s next = KeepsFrom scanner g set s (λ k. told (next k).found) (λ k. (next k).next)

-- what a step yields, and the state after it
abbrev pub told_step : MarkerStep → Step MarkerItem BlockMarkerIter
told_step r = step_for scanner.back (told r.found).values r.next

-- all items that a state's scan has before it
abbrev pub items : BlockMarkerIter → List Bool → List ℕ → List MarkerItem
items = scanning.items scanner
