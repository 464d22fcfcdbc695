-- The marker scanner's run: that it keeps the laws of item scanners, that a step's promise leaves one answer and one state, what it says unfolded, that stepping a fresh state until none comes yields all items, and that both scans yield the same. Assumes nothing.
-- The page: "From place 0 the streaming and line scans are proved to yield the same items in the same order", "For markers the digit
-- conditions drop out."
use Rattle.std.specs.Prelude.{◌≡◌, refl, Bool, true, ◌&&◌, List, ℕ, ◌+◌, ◌≤◌, length, take, Err, None, Ok, Option, Result, Some}
use Rattle.search.specs.Search.{holds, find}
use Rattle.common.specs.Sets.{accepted}
use Rattle.common.specs.Refusals.{read, unless_none}
use Rattle.common.specs.RefusalLaws.{read-refused}
use Rattle.common.specs.Turn.{all_found, drain}
use Rattle.common.specs.Turning.{OnFound}
use Rattle.common.specs.Items.{grammar, blank, has, Apart, leads}
use Rattle.common.specs.ItemLaws.{of_cond}
use Rattle.common.specs.Scanning.{by_needles, by_set, flag_off, found_by, turn, result, of_turn}
use Rattle.common.specs.ScanningLaws.{Lawful}
use Rattle.common.specs.ScanningLaws as scanning
use Rattle.block_marker.specs.Marker.{BlockMarkerIter, MarkerStep, make, mark_line, markers, stream_hit, stream_turn, scanner, fresh, unfolded, told, Kept, KeptFrom, told_step, items}
use Rattle.block_marker.specs.MarkerLaws.{Marks, stream_heads, line_heads, Lies, stream_adv, line_adv, lined_items, streamed_items}
use Rattle.block_marker.specs.declared.MarkerItem.{MarkerItem}
use Rattle.common.specs.declared.span.Span.{Span}
use native.Mathlib.Omega.{arith}
use Rattle.common.specs.declared.refusal.Refusal.{Refusal}

pub lawful : Lawful scanner Lies
lawful = record { of_made = λ f. refl; made_of = λ g. refl; reads = λ a n. refl; streams_on = stream_adv; lines_on = line_adv }

-- and the span of an item that lies before a place ends before it
pub fits : (q n : ℕ) (marker : ℕ) (span : Span) → Lies q n (make marker span) → (span.start ≤ n) × (span.end ≤ n)
fits q n marker span l = (omega arith, omega arith)

-- what a state's turns find is headed by its marker
pub turn_heads : (g : BlockMarkerIter) (set : List Bool) (s : List ℕ) (q : ℕ) → OnFound (Marks s) (turn scanner g set s q)
turn_heads g set s q = scanning.turn_finds scanner (Marks s) s q (λ r. stream_heads r s q) (λ r. line_heads r s q) g set

-- ---- one answer: it is read back from what it says
found_back : (r : Result (Option MarkerItem) Refusal) → found_by scanner (λ i. Ok (Some i)) (Ok None) Err (told r) ≡ r
unfolding read
found_back (Ok (Some i)) = refl
found_back (Ok None) = refl
found_back (Err r) = read-refused (unless_none (Ok None) (λ l. Ok (Some (scanner.back l)))) Err r

-- two answers that keep the promise of a step are equal, and so are the states after it
pub next_unique : (g : BlockMarkerIter) (set : List Bool) (s : List ℕ) (r r' : MarkerStep) → Kept g set s r → Kept g set s r' → r ≡ r'
next_unique g set s r r' = scanning.step_unique told (found_by scanner (λ i. Ok (Some i)) (Ok None) Err) found_back (λ f n. record { found = f; next = n })

-- ---- the step in one place: what the promise says, unfolded
pub next-unfolded : (g : BlockMarkerIter) (set : List Bool) (s : List ℕ) → result scanner g set s ≡ unfolded g set s
unfolding stream_turn
next-unfolded g set s =
    let r = by_needles (scanner.fields g) in
    let l = by_set (scanner.fields g) set in
    let p = find r.accepts s g.pos in
    let hit = of_cond (of_turn scanner g set s) (leads g.eol g.sep g.tab s p && holds (blank r) s (p + 1)) _ _ in
    scanning.step_unfolded lawful g set s (scanning.hit_unfolded scanner g set s r (stream_hit r s) g.pos hit) (scanning.read-unfolded scanner g set s l (mark_line l) g.pos)

-- ---- a fresh state
module _ (set : List Bool) (s : List ℕ) (eol sep tab : ℕ) (size : length set ≡ 256) (apart : length (accepted set) ≤ 3 → Apart (grammar eol sep tab (has set))) where
  streamed : length (accepted set) ≤ 3 → all_found (stream_turn (grammar eol sep tab (has set)) s) (length s) 0 ≡ markers (grammar eol sep tab (has set)) s
  streamed h = streamed_items (grammar eol sep tab (has set)) s (apart h)

  -- its scan finds the items of the text's lines, if the bytes are apart or more than three are accepted
  pub fresh-items : items (fresh eol sep tab set) set s ≡ markers (grammar eol sep tab (has set)) s
  fresh-items = scanning.fresh-items lawful set s eol sep tab size (markers (grammar eol sep tab (has set)) s) streamed (lined_items (grammar eol sep tab (has set)) s)

  -- stepping it yields them one by one, and none when there is none left
  pub fresh_run : length s ≤ 4294967295 → (next : BlockMarkerIter → MarkerStep) → KeptFrom (fresh eol sep tab set) set s next
      → (n : ℕ) → drain (λ k. told_step (next k)) n (fresh eol sep tab set) ≡ take n (markers (grammar eol sep tab (has set)) s)
  fresh_run short next =
      scanning.fresh_run lawful set s eol sep tab size (markers (grammar eol sep tab (has set)) s) streamed (lined_items (grammar eol sep tab (has set)) s) short (λ k. told (next k).found) (λ k. (next k).next)

-- "From place 0 the streaming and line scans are proved to yield the same items in the same order … when the accepted bytes are at most three
-- and none of line end, separator, tab …, the line end is neither separator nor tab": a fresh state streams then, and of every `next` that
-- keeps its promise any number of steps yields the same from that state and from the one with its flag off, which scans by lines
pub same-items : (set : List Bool) (s : List ℕ) (eol sep tab : ℕ) → length set ≡ 256 → length s ≤ 4294967295
    → length (accepted set) ≤ 3 → Apart (grammar eol sep tab (has set))
    → (next : BlockMarkerIter → MarkerStep) → KeptFrom (fresh eol sep tab set) set s next → KeptFrom (flag_off scanner (fresh eol sep tab set)) set s next
    → ((fresh eol sep tab set).streaming ≡ true) × ((n : ℕ) → drain (λ k. told_step (next k)) n (fresh eol sep tab set) ≡ drain (λ k. told_step (next k)) n (flag_off scanner (fresh eol sep tab set)))
same-items set s eol sep tab size short few apart next keeps keeps' =
    let g = grammar eol sep tab (has set) in
    (scanning.fresh_streams lawful eol sep tab set few, scanning.same_run lawful set s eol sep tab size (markers g s) (λ h. streamed_items g s apart) (lined_items g s) short (λ k. told (next k).found) (λ k. (next k).next) keeps keeps')
