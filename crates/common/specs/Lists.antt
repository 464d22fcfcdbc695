-- Lists in a run of numbers: an entry written to its row, all entries written over the front, and what is answered where they have room or not. Assumes nothing.
-- The page: "Success writes the regions from place 0, returns their count and changes nothing beyond them."
use Rattle.std.specs.Prelude.{◌≡◌, Bool, List, [], ◌∷◌, ℕ, ◌+◌, ◌*◌, ltb, length}
use Rattle.common.specs.Entry.{flatten, over, overfull, put_at}
use Rattle.common.specs.Refusals.{Outcome, given, refuse, leaves, too_long}

-- an entry written as row n of a list whose rows are all as long, and the next row's number
pub record RowPut (row : List ℕ) (n : ℕ) (out out' : List ℕ) (r : ℕ) : Type 0 where
  pub next : r ≡ n + 1
  pub list : out' ≡ put_at (n * length row) row out

-- a list's entries, each in the numbers that `flat` gives, written over the front of a run, and how many
pub record Wrote {A : Type 0} (flat : A → List ℕ) (l : List A) (out out' : List ℕ) (n : ℕ) : Type 0 where
  pub count : n ≡ length l
  pub list : out' ≡ over (flatten flat l) out

-- "Success writes the regions from place 0 … and changes nothing beyond them"; a refusal changes nothing: the run that an outcome leaves of `out`
abbrev pub filled_by : Outcome → List ℕ → List ℕ → List ℕ
filled_by o l out = leaves o out (over l out)

-- ---- entries of w numbers each, written where there is room for them
-- 3: "the answer has more regions, or items, than there is room for"
abbrev pub crowded : {A : Type 0} → ℕ → List A → List ℕ → Bool
crowded w l out = overfull w out (length l)

-- that refusal, else the count
abbrev pub filled_answer : {A : Type 0} → ℕ → List A → List ℕ → Outcome
filled_answer w l out = refuse 3 (crowded w l out) (given (length l ∷ []))

-- and the list that is left
abbrev pub filled_list : {A : Type 0} → (A → List ℕ) → ℕ → List A → List ℕ → List ℕ
filled_list flat w l out = filled_by (filled_answer w l out) (flatten flat l) out

-- ---- a text's bytes, written where there is room for all of them
-- "Output is written only when all of it fits": 3, else how many bytes
abbrev pub text_answer : List ℕ → List ℕ → Outcome
text_answer b out = refuse 3 (ltb (length out) (length b)) (given (length b ∷ []))

-- ---- what is refused before
-- "For building: 1, 6, 3.": the first two, which a text and rules whose columns may differ decide, else what follows
abbrev pub ruled : Bool → List ℕ → Outcome → Outcome
ruled differing s o = refuse 1 (too_long s) (refuse 6 differing o)

-- all three, of a text and of the list that rules make of it
unfoldable pub build_answer : {A : Type 0} → ℕ → Bool → List A → List ℕ → List ℕ → Outcome
build_answer w differing l s out = ruled differing s (filled_answer w l out)

-- the first two alone where the list is counted and not written
unfoldable pub count_answer : {A : Type 0} → Bool → List A → List ℕ → Outcome
count_answer differing l s = ruled differing s (given (length l ∷ []))

-- what filling a run answers and leaves
pub record Filled {A : Type 0} (flat : A → List ℕ) (w : ℕ) (l : List A) (out out' : List ℕ) (o : Outcome) : Type 0 where
  pub answer : o ≡ filled_answer w l out
  pub list : out' ≡ filled_list flat w l out
