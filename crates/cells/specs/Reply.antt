-- What an entry returns, and what it writes to its answer run. Assumes nothing.
-- The page: "For an answer that is an enum, a definition gives this paper's number and values for each of its cases".
use Rattle.std.specs.Prelude.{◌≡◌, Bool, cond, List, ◌∷◌, ℕ, ◌+◌, ltb, length}
use Rattle.common.specs.Lists.{filled_by}
use Rattle.common.specs.Entry.{flatten, put_at}
use Rattle.common.specs.Refusals.{Outcome, refuse, served}
use Rattle.cells.specs.Bytes.{four}

-- numbers set from place k on; all other places stay as they are
pub record LaidAt (k : ℕ) (l out out' : List ℕ) : Type 0 where
  pub list : out' ≡ put_at k l out

-- the same where there is room for all of them; else nothing is changed
pub record LaidIf (k : ℕ) (l out out' : List ℕ) : Type 0 where
  pub list : out' ≡ cond (ltb (length out) (k + length l)) out (put_at k l out)

-- the values of an answer as they are written: how many there are, and then these
abbrev pub written : List ℕ → List ℕ
written vs = flatten four (length vs ∷ vs)

-- 3, tried last: whether the answer run is too short for the values
abbrev pub short : Outcome → List ℕ → Bool
short o run = ltb (length run) (length (written o.values))

-- an answer, where it has to be written to a run
unfoldable pub fitted : Outcome → List ℕ → Outcome
fitted o run = cond (served o) (refuse 3 (short o run) o) o

-- the answer run that is left: the values are written on success alone
unfoldable pub answered : Outcome → List ℕ → List ℕ
answered o run = filled_by (fitted o run) (written o.values) run

-- the promise of an entry: it returns 0 or the refusal's number, and writes its values to a lent answer run on success alone
pub record Replied (o : Outcome) (run run' : List ℕ) (r : ℕ) : Type 0 where
  pub number : r ≡ (fitted o run).number
  pub list : run' ≡ answered o run
