-- What writing and reading records answer and leave. Assumes nothing.
-- Request 4: "Reading what we wrote gives the list again, and writing what was read gives our one layout. A list that is unsorted, overlapping or holds an empty
-- region is refused on both sides. Output is written only when all of it fits. Refusals: list shape 5; not this JSON 10, with the place of the first byte that
-- can't continue a file of this form, list shape aside, or the length of a file that breaks off; no room 3. In that order, except that 10 comes first
-- when reading."
use Rattle.std.specs.Prelude.{◌≡◌, Bool, cond, not, ◌&&◌, List, [], ◌∷◌, map, ℕ, leb, ltb, length, Result, Ok, Err}
use Rattle.common.specs.Entry.{flatten, rows, shaped, wide}
use Rattle.common.specs.Lists.{filled_answer, filled_by, text_answer}
use Rattle.common.specs.Refusals.{Outcome, given, refused, refuse, number_of, span_values, span_back}
use Rattle.common.specs.declared.refusal.Refusal.TheVariants.{ListMisshapen, NotRecords}
use Rattle.common.specs.declared.span.Span.{Span}
use Rattle.cover.specs.Shape.{misshapen}
use Rattle.json_file.specs.Grammar.{greatest}
use Rattle.json_file.specs.Form.{Course, outset, follow, may_end, is_whole, broken_at, regions_read}
use Rattle.json_file.specs.Layout.{layout}
use Rattle.json_file.specs.declared.phase.Phase.{Phase}
use Rattle.json_file.specs.declared.Unread.{Unread}
use Rattle.json_file.specs.declared.Unread.TheVariants as unread

-- ---- writing
-- the first n regions of a list
abbrev pub regions_of : ℕ → List ℕ → List Span
regions_of n l = map span_back (rows wide n l)

-- 5, then 3, else how many bytes
unfoldable pub write_answer : List ℕ → ℕ → List ℕ → Outcome
write_answer l n out = refuse 5 (misshapen l n greatest) (text_answer (layout (regions_of n l)) out)

-- the promise of writing the first n regions of a list: its answer, and the run that it leaves
pub record WroteRecords (l : List ℕ) (n : ℕ) (out out' : List ℕ) (o : Outcome) : Type 0 where
  pub answer : o ≡ write_answer l n out
  pub list : out' ≡ filled_by (write_answer l n out) (layout (regions_of n l)) out

-- ---- reading
-- "not this JSON 10, with the place"
abbrev pub broken : ℕ → Outcome
broken p = record { number = number_of NotRecords; values = p ∷ [] }

-- "A list that is unsorted, overlapping or holds an empty region"
abbrev pub list_shaped : List Span → Bool
list_shaped l = shaped 0 greatest (map span_values l)

-- the regions of a file
abbrev pub records_in : List ℕ → List Span
records_in s = regions_read (follow outset s)

-- 10, then 5, then 3, else how many regions; a region has w numbers of the list that is left
unfoldable pub read_answer : ℕ → List ℕ → List ℕ → Outcome
read_answer w s out =
    cond (is_whole (follow outset s)) (refuse 5 (not (list_shaped (records_in s))) (filled_answer w (records_in s) out)) (broken (broken_at outset s))

-- the promise of reading a file into a list, a region in the numbers that `flat` gives: its answer, and the list that it leaves
pub record ReadRecords (flat : Span → List ℕ) (w : ℕ) (s out out' : List ℕ) (o : Outcome) : Type 0 where
  pub answer : o ≡ read_answer w s out
  pub list : out' ≡ filled_by (read_answer w s out) (flatten flat (records_in s)) out

-- what the answer says
abbrev pub told_read : Result ℕ Unread → Outcome
told_read (Ok n) = given (n ∷ [])
told_read (Err (unread.Broken p)) = broken p
told_read (Err (unread.Refused r)) = refused (number_of r)

-- ---- the first pass
-- of how far a file was read, and of the place of the first byte that can't continue
unfoldable pub checked_of : Course → ℕ → Result ℕ Unread
checked_of c p = cond (is_whole c) (cond (list_shaped (regions_read c)) (Ok (length (regions_read c))) (Err (unread.Refused ListMisshapen))) (Err (unread.Broken p))

-- what that is at a file's end, where n regions are in order or not, and the file has so many bytes
abbrev pub finished_as : Phase → Bool → ℕ → ℕ → Result ℕ Unread
finished_as g good n len = cond (may_end g) (cond good (Ok n) (Err (unread.Refused ListMisshapen))) (Err (unread.Broken len))

-- regions in order or not, the last of which ends at low, with one more from a to b
abbrev pub stays_shaped : Bool → ℕ → ℕ → ℕ → Bool
stays_shaped good low a b = good && (leb low a && (ltb a b && leb b greatest))
