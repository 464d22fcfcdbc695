-- What pouring a list into a run of bytes answers and writes, whatever the list holds: the regions that rules build, or the items of a work sheet. Assumes nothing.
-- The page: "For building: 1, 6, 3.", "Success writes the regions from place 0, returns their count and changes nothing beyond them." and "there
-- each number of a list is four bytes, low byte first."
use Rattle.std.specs.Prelude.{◌≡◌, Bool, List, ℕ}
use Rattle.common.specs.Entry.{flatten}
use Rattle.common.specs.Lists.{filled_answer, build_answer, count_answer, filled_by}
use Rattle.common.specs.Refusals.{Outcome}
use Rattle.cells.specs.Reply.{fitted, Replied}

-- the runs that an entry writes to
pub record ListRuns : Type 0 where
  pub list : List ℕ
  pub answer : List ℕ

-- a reply, and a list that is written on success alone
pub record Poured (o : Outcome) (l : List ℕ) (before after : ListRuns) (r : ℕ) : Type 0 where
  pub reply : Replied o before.answer after.answer r
  pub left : after.list ≡ filled_by (fitted o before.answer) l before.list

-- a list's entries poured into a run, w bytes each
abbrev pub PouredAs : {A : Type 0} → (A → List ℕ) → ℕ → List A → ListRuns → ListRuns → ℕ → Type 0
PouredAs flat w l before after r = Poured (filled_answer w l before.list) (flatten flat l) before after r

-- ---- building
-- "For building: 1, 6, 3.", of a list whose entries have w bytes each, with the list that is left
abbrev pub BuiltAs : {A : Type 0} → (A → List ℕ) → ℕ → Bool → List A → List ℕ → ListRuns → ListRuns → ℕ → Type 0
BuiltAs flat w bad l s before after r = Poured (build_answer w bad l s before.list) (flatten flat l) before after r

-- ---- counting
-- how many entries building would write, whatever the room; no list is lent
abbrev pub CountedAs : {A : Type 0} → Bool → List A → List ℕ → List ℕ → List ℕ → ℕ → Type 0
CountedAs bad l s run run' r = Replied (count_answer bad l s) run run' r
