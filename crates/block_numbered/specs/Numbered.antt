-- What the numbered scanner finds. Assumes nothing.
-- The page: "As above with 1 to 9 ASCII digits and an accepted delimiter; ten digits reject."
use Rattle.std.specs.Prelude.{Bool, true, false, cond, ◌&&◌, List, [], ◌∷◌, ◌≡◌, ℕ, ◌+◌, ◌-◌, ltb, leb, length, get_or, take, drop, Option, Result}
use Rattle.std.proofs.Math.Seq.{slice}
use Rattle.search.specs.Search.{either, one_of, holds, find, back, line_end, after_line, digit}
use Rattle.decimal.specs.Decimal.{valued}
use Rattle.common.specs.Refusals.{Outcome, given, refused, too_long, past}
use Rattle.common.specs.Turn.{Turn, go, found, Step}
use Rattle.common.specs.Items.{ItemGrammar, grammar, blank, has, Apart, leading, beyond, leads, item_from, items_of, read_turn, hit_turn, step_for}
use Rattle.common.specs.Scanning.{Scanner, Keeps, KeepsFrom, on_from, of_line}
use Rattle.common.specs.Scanning as scanning
use Rattle.common.specs.Kinds.{ItemReading, scanner_of, told_by}
use Rattle.common.specs.declared.scan.ItemIter.{ItemIter}
use Rattle.common.specs.declared.scan.Step as code
use Rattle.common.specs.declared.span.Span.{Span}
use Rattle.block_numbered.specs.declared.Head.{Head}
use Rattle.block_numbered.specs.declared.Numbered.{Numbered}
use Rattle.block_numbered.specs.declared.NumberedItem.{NumberedItem}
use Rattle.block_numbered.specs.declared.DigitRun.{DigitRun}
use Rattle.block_numbered.specs.declared.Trail.{Trail}
use Rattle.common.specs.declared.refusal.Refusal.{Refusal}

-- "1 to 9 ASCII digits"
abbrev pub one_to_nine : ℕ → Bool
one_to_nine n = ltb 0 n && leb n 9

-- as many digits as there are, if they are at most nine, else 0
abbrev pub few : ℕ → ℕ
few n = cond (leb n 9) n 0

-- the item of a number and its delimiter, with the span of its content; and of the digits that write the number
abbrev pub item : ℕ → ℕ → ℕ → ℕ → NumberedItem
item number delimiter start end = record { number = number; delimiter = delimiter; span = record { start = start; end = end } }

abbrev pub numbered : List ℕ → ℕ → ℕ → ℕ → NumberedItem
numbered ds = item (valued ds)

-- ---- all numbered items of a text, by the bytes of its lines
-- the item of a line's bytes behind its digits ds, the first of them at k: an accepted delimiter, one separator or tab, and the rest of
-- the line
abbrev pub number_then : ItemGrammar → List ℕ → ℕ → List ℕ → List NumberedItem
number_then g ds k l = cond (one_to_nine (length ds)) (item_from g (numbered ds) k l) []

-- the item of a line's bytes from its digits on, the first of them at p
abbrev pub number_from : ItemGrammar → ℕ → List ℕ → List NumberedItem
number_from g p l = number_then g (leading digit l) (p + length (leading digit l)) (beyond digit l)

-- the item of a line whose bytes are l, the first of them at a: "Optional separators and tabs", "1 to 9 ASCII digits and an accepted
-- delimiter", "one separator or tab; the span is the rest of the line"; "ten digits reject"
unfoldable pub number_line : ItemGrammar → ℕ → List ℕ → List NumberedItem
number_line g a l = number_from g (a + length (leading (blank g) l)) (beyond (blank g) l)

-- the items of all lines, in the lines' order
abbrev pub numbers : ItemGrammar → List ℕ → List NumberedItem
numbers g s = items_of g (number_line g) s

-- no digit is accepted
abbrev pub NoDigit : ItemGrammar → Type 0
NoDigit g = (x : ℕ) → digit x ≡ true → g.accepts x ≡ false

-- the page's conditions: "none of line end, separator, tab or digit, the line end is neither separator nor tab, and none of these three
-- is a digit"
pub record DigitsApart (g : ItemGrammar) : Type 0 where
  pub apart : Apart g
  pub not_digit : NoDigit g
  pub eol_digit : digit g.eol ≡ false
  pub sep_digit : digit g.sep ≡ false
  pub tab_digit : digit g.tab ≡ false

-- ---- the streaming scan
-- an accepted byte at p with n digits before it: an item, if they are one to nine, only separators and tabs stand before them on their
-- line, and one stands behind the byte; else on from the next byte
abbrev pub stream_hit : ItemGrammar → List ℕ → ℕ → ℕ → Turn NumberedItem
stream_hit g s p n =
    cond (one_to_nine n && (leads g.eol g.sep g.tab s (p - n) && holds (blank g) s (p + 1)))
    (found (numbered (slice (p - n) p s) (get_or s p 0) (p + 2) (line_end g.eol s (p + 2))) (after_line g.eol s (p + 2)))
    (go (p + 1))

-- one turn at q: the next accepted byte, and the digits that it ends; where there is none the scan stays
unfoldable pub stream_turn : ItemGrammar → List ℕ → ℕ → Turn NumberedItem
stream_turn g s q = hit_turn g (λ p. stream_hit g s p (back digit s p)) s q

-- ---- the line scan: it reads nine digits at the most, and a tenth may be the delimiter
-- the digits that it reads
abbrev pub read_digits : List ℕ → List ℕ
read_digits l = leading digit (take 9 l)

-- the item of a line's bytes from its digits on, and of a whole line
abbrev pub read_from : ItemGrammar → ℕ → List ℕ → List NumberedItem
read_from g p l = number_then g (read_digits l) (p + length (read_digits l)) (drop (length (read_digits l)) l)

unfoldable pub read_line : ItemGrammar → ℕ → List ℕ → List NumberedItem
read_line g a l = read_from g (a + length (leading (blank g) l)) (beyond (blank g) l)

-- one turn at q, taken for a line's start
abbrev pub line_turn : ItemGrammar → List ℕ → ℕ → Turn NumberedItem
line_turn g s q = read_turn g (read_line g) s q

-- ---- the step
-- an item's values: the start and end of its content, the delimiter byte and the number
abbrev pub values : NumberedItem → List ℕ
values i = i.span.start ∷ i.span.end ∷ i.delimiter ∷ i.number ∷ []

-- how its items are read
abbrev pub reading : ItemReading NumberedItem
reading = record { streams = stream_turn; lines = line_turn; values = values; back = λ l. item (get_or l 3 0) (get_or l 2 0) (get_or l 0 0) (get_or l 1 0) }

-- a state, and the scanner
abbrev pub BlockNumberedIter : Type 0
BlockNumberedIter = ItemIter Numbered

abbrev pub scanner : Scanner BlockNumberedIter NumberedItem
scanner = scanner_of Numbered reading

-- a fresh state
abbrev pub fresh : ℕ → ℕ → ℕ → List Bool → BlockNumberedIter
fresh = scanning.fresh scanner

-- what a step answers, and the state after it
abbrev pub answer : BlockNumberedIter → List Bool → List ℕ → Outcome
answer = scanning.answer scanner

abbrev pub state : BlockNumberedIter → List Bool → List ℕ → BlockNumberedIter
state = scanning.state scanner

-- ---- the step in one place
-- what `next` promises of a state g, a set and a text s, in the order of its tests: what it answers, and the state after it. `next-unfolded`
-- (NumberedRun.antt) shows that it is the promise
abbrev pub unfolded : BlockNumberedIter → List Bool → List ℕ → Outcome × BlockNumberedIter
unfolded g set s =
    -- the state's place, the first accepted byte from there on, the number of digits just before it, and where the line begins that
    -- follows a place's line
    let q = g.pos in
    let p = find (one_of (take g.nn g.needles)) s q in
    let n = back digit s p in
    let below : ℕ → ℕ = after_line g.eol s in
    -- the text is too long: 1, and the state as it was
    cond (too_long s) (refused 1, g)
    -- the place is past the text: 2, and the state as it was
    (cond (past s q) (refused 2, g)
    -- "in a handmade state its flag decides". The streaming scan, where there is an accepted byte p:
    (cond g.streaming
    (cond (ltb p (length s))
    -- the digits are one to nine, only separators and tabs stand before them on their line, and one behind p: its item, with the rest of the
    -- line, and the next line
    (cond (one_to_nine n && (leads g.eol g.sep g.tab s (p - n) && holds (either g.sep g.tab) s (p + 1)))
    (given ((p + 2) ∷ line_end g.eol s (p + 2) ∷ get_or s p 0 ∷ valued (slice (p - n) p s) ∷ []), scanning.at scanner g (below (p + 2)))
    -- else what the state answers from the next byte on
    (on_from scanner g set s (p + 1)))
    -- where there is none: nothing, and the state stays
    (given [], g))
    -- the line scan, before the text's end: the item that the bytes of the line from q on make, and the next line; where they make none,
    -- what the state answers from the next line on
    (cond (ltb q (length s))
    (of_line scanner g set s (read_line (grammar g.eol g.sep g.tab (has set)) q (slice q (line_end g.eol s q) s)) (below q))
    -- at the text's end: nothing, and the state stays
    (given [], g))))

-- ---- what the code's values stand for
-- the item of what leads its line, and of its span
abbrev pub make : Head → Span → NumberedItem
make head span = record { number = head.number; delimiter = head.delimiter; span = span }

abbrev pub told : Result (Option NumberedItem) Refusal → Outcome
told = told_by values

-- digits read from a place: their number, and where they end
abbrev pub digits_at : ℕ → List ℕ → DigitRun
digits_at from ds = record { number = valued ds; end = from + length ds }

-- the n digits before a place: how many they are, and their number
abbrev pub trail_at : List ℕ → ℕ → ℕ → Trail
trail_at s p n = record { count = n; number = valued (slice (p - n) p s) }

-- ---- the run
-- what a step answers, and the state after it
abbrev pub NumberedStep : Type 0
NumberedStep = code.Step NumberedItem BlockNumberedIter

-- the promise of `next` for its result
abbrev pub Kept : BlockNumberedIter → List Bool → List ℕ → NumberedStep → Type 0
Kept g set s r = Keeps scanner g set s (told r.found) r.next

-- a `next` that keeps that promise of a state wherever it stands in the text
abbrev pub KeptFrom : BlockNumberedIter → List Bool → List ℕ → (BlockNumberedIter → NumberedStep) → Type 0
KeptFrom g set s next = KeepsFrom scanner g set s (λ k. told (next k).found) (λ k. (next k).next)

-- what a step yields, and the state after it
abbrev pub told_step : NumberedStep → Step NumberedItem BlockNumberedIter
told_step r = step_for scanner.back (told r.found).values r.next

-- all items that a state's scan has before it
abbrev pub items : BlockNumberedIter → List Bool → List ℕ → List NumberedItem
items = scanning.items scanner
