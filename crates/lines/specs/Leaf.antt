-- What the leaves of common.rs answer, refusals in the page's order: "Order for a leaf with a place: 1, 6 where it takes rules, 2."
-- Assumes nothing.
use Rattle.std.specs.Prelude.{Bool, false, List, [], ◌∷◌, ℕ}
use Rattle.common.specs.Items.{unless_refused}
use Rattle.search.specs.Search.{is, back, line_end}
use Rattle.common.specs.Refusals.{Outcome, given, refuse, too_long, past, differ}
use Rattle.common.specs.Rules.{on_byte, has_rule, least_of}
use Rattle.lines.specs.Fences.{opens_line}
use Rattle.lines.specs.Paragraph.{next_in}
use Rattle.lines.specs.declared.fence_tests.Hit.{Hit}
use Rattle.lines.specs.declared.fence_tests.Hit.TheVariants.{At, End}

-- "first line-end byte at or after a place, else the length"
unfoldable pub find_line_end : List ℕ → ℕ → ℕ → Outcome
find_line_end s from eol = unless_refused s (past s from) (given (line_end eol s from ∷ []))

-- "run of escape bytes just before"
unfoldable pub count_escape : List ℕ → ℕ → ℕ → Outcome
count_escape s pos escape = unless_refused s (past s pos) (given (back (is escape) s pos ∷ []))

abbrev pub told_hit : Hit → Outcome
told_hit (At q) = given (q ∷ [])
told_hit (End u) = given []

-- whether a line opens a fence by the columns: by the first rule with its first byte
abbrev pub opens_by : ℕ → List ℕ → List ℕ → List ℕ → ℕ → Bool
opens_by eol bytes mins s p = opens_line eol (on_byte false (has_rule bytes)) (on_byte 0 (least_of bytes mins)) s p

-- "crosses one line end; stops at the end of input, at an empty line, or where the entered line opens a fence"
unfoldable pub next_in_paragraph : List ℕ → ℕ → ℕ → ℕ → List ℕ → List ℕ → Outcome
next_in_paragraph s from needle eol bytes mins =
    refuse 1 (too_long s) (refuse 6 (differ bytes mins) (refuse 2 (past s from) (told_hit (next_in eol (opens_by eol bytes mins s) s needle from))))
