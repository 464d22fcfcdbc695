-- Whether a place leads its line, asked of one place after another: what is kept between two questions, and what each promises. Assumes nothing.
-- The page: "Optional separators and tabs, one accepted byte"; the streaming scans look back over them from each accepted byte that they find.
use Rattle.std.specs.Prelude.{◌≡◌, Bool, false, cond, ◌&&◌, List, ℕ, ◌<◌, ltb, leb}
use Rattle.search.specs.Promise.{Gives}
use Rattle.search.specs.Search.{either, other, find}
use Rattle.common.specs.Items.{leads}

-- whether only separators and tabs part p from a place k before it; of place 0 nothing is said
unfoldable pub joined : ℕ → ℕ → List ℕ → ℕ → ℕ → Bool
joined sep tab s k p = ltb 0 k && (leb k p && leb p (find (other (either sep tab)) s k))

-- the answer where k is taken for a place that does not lead its line
unfoldable pub leads_by : ℕ → ℕ → ℕ → List ℕ → ℕ → ℕ → Bool
leads_by eol sep tab s k p = cond (joined sep tab s k p) false (leads eol sep tab s p)

-- what is promised, for every place that is lent: the answer, and the place that is lent on, which is p where p does not lead its line
pub record LedBy (eol sep tab : ℕ) (s : List ℕ) (p lost : ℕ) (r : Bool) (lost' : ℕ) : Type 0 where
  pub answer : r ≡ leads_by eol sep tab s lost p
  pub kept : lost' ≡ cond r lost p

-- that the place which is lent, if it isn't 0, does not lead its line
pub record Unled (eol sep tab : ℕ) (s : List ℕ) (lost : ℕ) : Type 0 where
  pub unled : 0 < lost → leads eol sep tab s lost ≡ false

-- an answer r that is to be x, and such a place
pub record Looked {A : Type 0} (eol sep tab : ℕ) (s : List ℕ) (x r : A) (lost : ℕ) : Type 0 where
  pub turn : Gives x r
  pub left : Unled eol sep tab s lost
