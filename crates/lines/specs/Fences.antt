-- What a line says of fences, and where a fence is closed. Assumes nothing.
-- The page: "A fence begins its line, has a run of at least min and at least 1, and no further fence byte on that line. It is closed by
-- the first later line whose run is as long or longer and whose rest is separators or tabs." and "Run counts stop at 255."

use Rattle.std.specs.Prelude.{Bool, cond, ◌&&◌, List, ℕ, ◌+◌, ◌-◌, min, ltb, leb, length, get_or, None, Option, Some}
use Rattle.search.specs.Search.{find, after_run, is, either, other, holds, line_start, line_end}
use Rattle.common.specs.declared.grammar.Grammar.{Grammar}
use Rattle.common.specs.Rules.{tabulate, entry, rule_index}

-- the end of the run of b that begins at p, within a line that ends at e
abbrev pub run_end : ℕ → List ℕ → ℕ → ℕ → ℕ
run_end b s p e = min (after_run b s p) e

-- the length of a run from p up to j: "Run counts stop at 255."
abbrev pub run_count : ℕ → ℕ → ℕ
run_count p j = min (j - p) 255

-- whether a fence byte's run from p up to j, in a line that ends at e, opens a fence: "a run of at least min and at least 1, and no
-- further fence byte on that line"
abbrev pub opens_run : ℕ → ℕ → List ℕ → ℕ → ℕ → ℕ → Bool
opens_run b least s p j e = ltb p j && (leb least (run_count p j) && leb e (find (is b) s j))

-- the same of the line that begins at p, for a byte and a minimum
abbrev pub opens_to : ℕ → ℕ → List ℕ → ℕ → ℕ → Bool
opens_to b least s p e = opens_run b least s p (run_end b s p e) e

-- its run, counted, and the line's end
unfoldable pub opening_of : ℕ → ℕ → ℕ → List ℕ → ℕ → Option (ℕ × ℕ)
opening_of eol b least s p = cond (opens_to b least s p (line_end eol s p)) (Some (run_count p (run_end b s p (line_end eol s p)), line_end eol s p)) None

-- whether the line that begins at p opens a fence, by the rule of the byte that stands there: `has` says whether there is one, `least`
-- its minimum
unfoldable pub opens_line : ℕ → (ℕ → Bool) → (ℕ → ℕ) → List ℕ → ℕ → Bool
opens_line eol has least s p = has (get_or s p 0) && opens_to (get_or s p 0) (least (get_or s p 0)) s p (line_end eol s p)

-- and how
unfoldable pub opening : ℕ → (ℕ → Bool) → (ℕ → ℕ) → List ℕ → ℕ → Option (ℕ × ℕ)
opening eol has least s p = cond (has (get_or s p 0)) (opening_of eol (get_or s p 0) (least (get_or s p 0)) s p) None

-- whether a run from q up to j, in a line that ends at e, closes a fence: it is "as long or longer", and the "rest is separators or
-- tabs", which `blank` tells
abbrev pub closes_run : (ℕ → Bool) → ℕ → List ℕ → ℕ → ℕ → ℕ → Bool
closes_run blank count s q j e = leb count (run_count q j) && leb e (find (other blank) s j)

-- the same of a line from q up to e, for a fence of byte b
unfoldable pub closes_to : Grammar → ℕ → ℕ → List ℕ → ℕ → ℕ → Bool
closes_to g b count s q e = closes_run (either g.sep g.tab) count s q (run_end b s q e) e

-- whether a line begins at q, with the fence byte b, that closes a fence with such an opening run
unfoldable pub closing : Grammar → ℕ → ℕ → List ℕ → ℕ → Bool
closing g b count s q = line_start g.eol s q && (holds (is b) s q && closes_to g b count s q (line_end g.eol s q))

-- ---- the rules
-- the number that stands for the rule at an index: 0 where there is none, else one more than its minimum
abbrev pub rule_cell : List ℕ → List ℕ → ℕ → ℕ
rule_cell bytes mins k = cond (ltb k (length bytes)) (get_or mins k 0 + 1) 0

-- "by the first rule with that byte", as a table over the bytes
abbrev pub fence_cell : List ℕ → List ℕ → ℕ → ℕ
fence_cell bytes mins b = rule_cell bytes mins (rule_index bytes b)

unfoldable pub fence_table : List ℕ → List ℕ → List ℕ
fence_table bytes mins = tabulate (fence_cell bytes mins) 256 0

-- what a table, also one made by hand, says of a byte: whether a rule has it, and its minimum
unfoldable pub has_in : List ℕ → ℕ → Bool
has_in fences b = ltb 0 (entry 0 fences b)

unfoldable pub least_in : List ℕ → ℕ → ℕ
least_in fences b = entry 0 fences b - 1
