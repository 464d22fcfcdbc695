-- The regions of a text, over an abstract grammar. Assumes nothing.
-- The page, module 6: "A fence at a line start goes first, by the first rule with that byte; … A failed fence falls to the inline rule,
-- symmetric before asymmetric, first match." and so on, a sentence to a definition.
use Rattle.std.specs.Prelude.{Bool, true, false, cond, List, map, ℕ, ◌+◌, ◌-◌, ◌%◌, eqb, ltb, length, get_or, None, Option, Some}
use Rattle.search.specs.Search.{find, after_run, is, back, first_place, line_end, next_line, after_line}
use Rattle.lines.specs.Paragraph.{next_in}
use Rattle.common.specs.Turn.{Turn, go, stop, found, first_turn, all_found}
use Rattle.lines.specs.declared.fence_tests.Hit.{Hit}
use Rattle.lines.specs.declared.fence_tests.Hit.TheVariants.{At, End}
use Rattle.region.specs.Region.{Caused, caused, Region, Origin, retag}
use Rattle.rules.specs.Grammar.{Rule, plain, sym, asym, Gram}
use Rattle.rules.specs.Columns.{Columns, gram_of}
use Rattle.common.specs.declared.grammar.Grammar.{Grammar}
use Rattle.region.specs.declared.Cause.{Cause}
use Rattle.region.specs.declared.Cause.TheVariants.{Fence, Symmetric, Asymmetric}

-- ---- fences
-- the place of the first later line that closes the fence opened at p, else the text's end
unfoldable pub shut_place : Gram → List ℕ → ℕ → ℕ
shut_place g s p = first_place (g.fences.shuts (get_or s p 0) (g.fences.size s p) s) (after_line g.eol s p) (length s)

-- a fence of rule i that opened at p, by what the search for its close said: "its region ends before the closing line's line end"; where no
-- line closes it, at the text's end
-- (the scan goes on behind that line end: `~\n~\n>` with minimum 1 and an opener that is the line end is 0-3 alone)
abbrev pub closed_by : List ℕ → ℕ → ℕ → Option (ℕ × ℕ) → Turn Caused
closed_by s p i (Some (q, e)) = found (caused Fence i true p e) (next_line (length s) e)
closed_by s p i None = found (caused Fence i false p (length s)) (length s)

-- the fence that opens at p, by whether a line closes it, which begins at q
abbrev pub fenced_to : Gram → List ℕ → ℕ → Bool → ℕ → Turn Caused
fenced_to g s p true q = closed_by s p (g.fence_index (get_or s p 0)) (Some (q, line_end g.eol s q))
fenced_to g s p false q = closed_by s p (g.fence_index (get_or s p 0)) None

abbrev pub fenced : Gram → List ℕ → ℕ → Turn Caused
fenced g s p = fenced_to g s p (ltb (shut_place g s p) (length s)) (shut_place g s p)

-- ---- pairs
-- whether the escapes just before p are odd in number
unfoldable pub odd_before : ℕ → List ℕ → ℕ → Bool
odd_before escape s p = eqb (back (is escape) s p % 2) 1

abbrev pub escaped : Gram → List ℕ → ℕ → Bool
escaped g s p = odd_before g.escape s p

-- the next x in the paragraph of j
abbrev pub next_of : Gram → List ℕ → ℕ → ℕ → Hit
next_of g s x j = next_in g.eol (g.fences.enters s) s x j

-- "a symmetric close an unescaped run of exactly the count": a run from q up to t
abbrev pub sym_run : ℕ → ℕ → ℕ → Turn ℕ
sym_run count q t = cond (eqb (t - q) count) (found t t) (go t)

-- an escaped byte is passed alone, so that the rest of its run is judged as a run of its own: `` `\`` `` with a backtick and count 1 is 0-4
abbrev pub sym_after : Gram → List ℕ → ℕ → ℕ → Hit → Turn ℕ
sym_after g s b count (At q) = cond (escaped g s q) (go (q + 1)) (sym_run count q (after_run b s q))
sym_after g s b count (End u) = stop u

unfoldable pub sym_turn : Gram → List ℕ → ℕ → ℕ → ℕ → Turn ℕ
sym_turn g s b count j = sym_after g s b count (next_of g s b j)

-- "an asymmetric close is one unescaped close byte"
abbrev pub asym_after : Gram → List ℕ → Hit → Turn ℕ
asym_after g s (At q) = cond (escaped g s q) (go (q + 1)) (found (q + 1) (q + 1))
asym_after g s (End u) = stop u

unfoldable pub asym_turn : Gram → List ℕ → ℕ → ℕ → Turn ℕ
asym_turn g s c j = asym_after g s (next_of g s c j)

-- "A found pair's region includes both delimiters; after a failed one the scan resumes past the opening run", which ends at r
abbrev pub pair_of : Cause → ℕ → ℕ → ℕ → Turn ℕ → Turn Caused
pair_of k i p r (go n) = go r
pair_of k i p r (stop u) = go r
pair_of k i p r (found e n) = found (caused k i true p e) e

-- "An escaped trigger (odd escape run) is passed. The opening run must be exactly the count."
abbrev pub open_pair : Gram → List ℕ → ℕ → ℕ → Cause → ℕ → (ℕ → Turn ℕ) → ℕ → Turn Caused
open_pair g s p count k i close r = cond (escaped g s p) (go (p + 1)) (cond (eqb (r - p) count) (pair_of k i p r (first_turn close (length s) r)) (go r))

-- a byte b at p that opens no fence, by its inline rule
unfoldable pub inline : Gram → List ℕ → ℕ → ℕ → Rule → Turn Caused
inline g s p b plain = go (p + 1)
inline g s p b (sym i count) = open_pair g s p count Symmetric i (sym_turn g s b count) (after_run b s p)
inline g s p b (asym i c count) = open_pair g s p count Asymmetric i (asym_turn g s c) (after_run b s p)

-- ---- a turn: the next byte searched for, "a fence at a line start goes first … a failed fence falls to the inline rule"
abbrev pub region_at : Gram → List ℕ → ℕ → Turn Caused
region_at g s p = cond (g.fences.opens s p) (fenced g s p) (inline g s p (get_or s p 0) (g.rule (get_or s p 0)))

abbrev pub region_from : Gram → List ℕ → ℕ → ℕ → Turn Caused
region_from g s q p = cond (ltb p (length s)) (region_at g s p) (stop q)

unfoldable pub region_turn : Gram → List ℕ → ℕ → Turn Caused
region_turn g s q = region_from g s q (find g.trigger s q)

-- the next region from a place on
abbrev pub next_region : Gram → List ℕ → ℕ → Turn Caused
next_region g s q = first_turn (region_turn g s) (length s) q

-- the regions of a text from a place on
unfoldable pub regions_from : Gram → List ℕ → ℕ → List Caused
regions_from g s q = all_found (region_turn g s) (length s) q

-- all regions of a text, each with the rule that made it
unfoldable pub regions : Gram → List ℕ → List Caused
regions g s = regions_from g s 0

-- the same, with what f says of the rules
abbrev pub tagged : {T : Type 0} → (Origin → T) → Gram → List ℕ → List (Region T)
tagged f g s = map (retag f) (regions g s)

-- the regions that columns build
abbrev pub built_by : Grammar → Columns → List ℕ → List Caused
built_by g c s = regions (gram_of g c) s
