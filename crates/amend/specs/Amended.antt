-- What an amendment answers and writes. Assumes nothing.
-- The page: "For an amendment: 1 (old text, replacement), 6, 4, 1 (edited text), 5, 9, 7, 8, 3." and "This formula holds for every
-- accepted list".
use Rattle.std.specs.Prelude.{◌≡◌, Bool, not, cond, ◌||◌, ◌&&◌, List, [], ◌++◌, map, ℕ, ◌+◌, ltb, length, take, drop}
use Rattle.common.specs.Entry.{flatten, rows, wide}
use Rattle.common.specs.Refusals.{Outcome, refuse, too_long, past}
use Rattle.common.specs.declared.grammar.Grammar.{Grammar}
use Rattle.region.specs.Region.{Region, up, reaches, keep_before, keep_from, Listed, row, unrow, tag_of}
use Rattle.rules.specs.Grammar.{Gram}
use Rattle.rules.specs.Columns.{Columns, gram_of, unequal}
use Rattle.cover.specs.Shape.{misshapen}
use Rattle.amend.specs.Amend.{Edit, moved_by, joint}
use Rattle.joint.specs.Joint.{open_end, line_end_is_mark}
use Rattle.region.specs.Regions.{tagged}
use Rattle.common.specs.Lists.{filled_answer, filled_by}

-- ---- lists as regions
-- the first n regions of a list
unfoldable pub regions_in : ℕ → List ℕ → List Listed
regions_in n l = map unrow (rows wide n l)

-- a text's regions as a list has them
abbrev pub list_regions : Gram → List ℕ → List Listed
list_regions = tagged tag_of

-- ---- an edit of a text
abbrev pub edit : ℕ → ℕ → List ℕ → Edit
edit first second text = record { first = first; second = second; text = text }

-- the edited text (`finished` of Several.antt says it of several edits, for the proof)
abbrev pub edited : Edit → List ℕ → List ℕ
edited e s = take e.first s ++ (e.text ++ drop e.second s)

-- whether old text follows a second cut, in a text of a length
abbrev pub follows : ℕ → ℕ → Bool
follows len second = ltb second len

-- "regions starting before the first cut; the replacement's own moved up by the first cut; unless the second cut is the text's end,
-- regions starting at or after it moved by the change in length" (`relist` of Several.antt says it of several edits, for the proof)
unfoldable pub amended_regions : {T : Type 0} → (List ℕ → List (Region T)) → ℕ → Edit → List (Region T) → List (Region T)
amended_regions build len e l =
    keep_before e.first l
    ++ (up e.first (build e.text) ++ cond (follows len e.second) (moved_by e.second (e.first + length e.text) (keep_from e.second l)) [])

-- ---- what is refused
-- 4: "first cut after second, or second past the text"
abbrev pub miscut : List ℕ → Edit → Bool
miscut s e = ltb e.second e.first || past s e.second

-- 9: "the escape, a symmetric byte or an asymmetric opener is the line-end byte", of a grammar and columns
abbrev pub uses_line_end : Grammar → Columns → Bool
uses_line_end g c = line_end_is_mark g.eol g.escape c.inline.sym_bytes c.inline.openers

-- 7: "a cut is not at a joint (the second may be the text's end)"
unfoldable pub off_joint : {T : Type 0} → ℕ → List ℕ → List (Region T) → ℕ → ℕ → Bool
off_joint eol s l first second = not (joint eol s l first) || (follows (length s) second && not (joint eol s l second))

-- 8: "old text follows a replacement that isn't empty, and that replacement doesn't end in two line ends or has, built alone, a region
-- reaching its end"
unfoldable pub left_open : {T : Type 0} → ℕ → (List ℕ → List (Region T)) → ℕ → Edit → Bool
left_open eol build len e = open_end eol (follows len e.second) e.text (reaches (length e.text) (build e.text))

-- ---- the answer, and the list that is left
-- "For an amendment: 1 (old text, replacement), 6, 4, 1 (edited text), 5, 9, 7, 8, 3."
-- The first four, which the texts' lengths, the columns (6 as it holds) and the cuts decide, else what follows
unfoldable pub judged_edit : List ℕ → Edit → Bool → Outcome → Outcome
judged_edit s e unequal o =
    refuse 1 (too_long s || too_long e.text)
    (refuse 6 unequal
    (refuse 4 (miscut s e)
    (refuse 1 (too_long (edited e s))
    o)))

-- and the next three, which the list, the rules (9 as it holds) and the bytes before the cuts decide
unfoldable pub judged : ℕ → List ℕ → List ℕ → ℕ → Edit → Bool → Bool → Outcome → Outcome
judged eol s l n e unequal marked o =
    judged_edit s e unequal
    (refuse 5 (misshapen l n (length s))
    (refuse 9 marked
    (refuse 7 (off_joint eol s (regions_in n l) e.first e.second)
    o)))

-- the last two, which the replacement and the room decide, 3 as for building, where a region has w numbers of the list that is left; else the
-- count
unfoldable pub settled_answer : ℕ → ℕ → ℕ → (List ℕ → List Listed) → List Listed → Edit → List ℕ → Outcome
settled_answer w eol len build l e out =
    refuse 8 (left_open eol build len e) (filled_answer w (amended_regions build len e l) out)

module _ (g : Grammar) (c : Columns) (s l : List ℕ) (n : ℕ) (e : Edit) where
  -- the regions that an amendment of the list l, with n regions, is to leave
  abbrev pub amended_list : List Listed
  amended_list = amended_regions (list_regions (gram_of g c)) (length s) e (regions_in n l)

  -- all nine, one after another, where a region has w numbers of the list that is left, and columns may differ
  unfoldable pub amend_answer : ℕ → Bool → List ℕ → Outcome
  amend_answer w differing out =
      judged g.eol s l n e differing (uses_line_end g c)
      (settled_answer w g.eol (length s) (list_regions (gram_of g c)) (regions_in n l) e out)

  unfoldable pub amended_answer : List ℕ → Outcome
  amended_answer out = amend_answer wide (unequal c) out

-- the promise of an amendment: its answer, and the list that it leaves. "Success writes the regions from place 0, returns their count and
-- changes nothing beyond them."
pub record Amended (g : Grammar) (c : Columns) (s l : List ℕ) (n : ℕ) (e : Edit) (out out' : List ℕ) (o : Outcome) : Type 0 where
  pub answer : o ≡ amended_answer g c s l n e out
  pub list : out' ≡ filled_by (amended_answer g c s l n e out) (flatten row (amended_list g c s l n e)) out
