-- What the parts of an amendment ask and promise. Assumes nothing.
-- The page's sentences stand in Amended.antt; here are its parts, a function each.
use Rattle.std.specs.Prelude.{◌≡◌, Bool, false, List, [], ◌++◌, ℕ, ◌+◌, ◌-◌, ◌*◌, ◌≤◌, length, drop, Err, Ok, Result}
use Rattle.common.specs.Lists.{filled_by}
use Rattle.common.specs.Entry.{flatten, put_at, wide}
use Rattle.common.specs.Refusals.{Outcome, given, refused, number_of}
use Rattle.region.specs.Region.{up, reaches, InOrder, Listed, Caused, row}
use Rattle.rules.specs.Grammar.{Gram}
use Rattle.region.specs.Regions.{regions}
use Rattle.amend.specs.Amend.{Edit, moved_by}
use Rattle.cover.specs.Shape.{misshapen}
use Rattle.amend.specs.Amended.{regions_in, list_regions, amended_regions, judged_edit, judged, settled_answer}
use Rattle.amend.specs.declared.Cuts.{Cuts}
use Rattle.amend.specs.declared.Split.{Split}
use Rattle.amend.specs.declared.own.Counted.{Counted}
use Rattle.common.specs.declared.refusal.Refusal.{Refusal}

-- ---- lists
-- a list with its first n regions in order, up to len
pub record Orderly (l : List ℕ) (n len : ℕ) : Type 0 where
  pub roomy : n * wide ≤ length l
  pub order : InOrder 0 len (regions_in n l)

-- a list that is not misshapen, of a text within the limit
pub record Fair (l : List ℕ) (n len : ℕ) : Type 0 where
  pub shape : misshapen l n len ≡ false
  pub short : len ≤ 4294967295

-- the regions of a list from row i up to row n
abbrev pub regions_between : ℕ → ℕ → List ℕ → List Listed
regions_between i n l = regions_in (n - i) (drop (i * wide) l)

-- regions that are written from row n on, each in the w numbers that `flat` gives, and the row after them
pub record PutRows (flat : Listed → List ℕ) (w : ℕ) (l : List Listed) (n : ℕ) (out out' : List ℕ) (r : ℕ) : Type 0 where
  pub next : r ≡ n + length l
  pub list : out' ≡ put_at (n * w) (flatten flat l) out

-- a place that keeps within 32 bits where it is moved
pub record Moves (place down up : ℕ) : Type 0 where
  pub low : down ≤ place
  pub high : place + up ≤ 4294967295 + down

-- rows in order that keep within 32 bits where they are moved, and room for them, w numbers each
pub record Copies (w : ℕ) (l : List ℕ) (from to down up : ℕ) (out : List ℕ) (at : ℕ) : Type 0 where
  pub ahead : from ≤ to
  pub inside : to * wide ≤ length l
  pub order : InOrder down (4294967295 + down - up) (regions_between from to l)
  pub room : at * w + (to - from) * w ≤ length out

-- ---- the replacement's own regions
-- how many they are, and whether one reaches the replacement's end
abbrev pub surveyed : Gram → List ℕ → Counted
surveyed g s = record { count = length (regions g s); reaching = reaches (length s) (regions g s) }

-- regions of a text that keep within 32 bits where they are moved up, and room for them, w numbers each
pub record Owns (w : ℕ) (l : List Caused) (s : List ℕ) (by : ℕ) (out : List ℕ) (at : ℕ) : Type 0 where
  pub fits : length s + by ≤ 4294967295
  pub room : at * w + length l * w ≤ length out

-- ---- refusals
abbrev pub told_verdict : Result Unit Refusal → Outcome
told_verdict (Ok tt) = given []
told_verdict (Err r) = refused (number_of r)

-- what a verdict says: the first four refusals, or the first seven, and nothing behind them
pub record JudgedEdit (s : List ℕ) (e : Edit) (unequal : Bool) (v : Result Unit Refusal) : Type 0 where
  pub answer : told_verdict v ≡ judged_edit s e unequal (given [])

pub record Judged (eol : ℕ) (s l : List ℕ) (n : ℕ) (e : Edit) (unequal marked : Bool) (v : Result Unit Refusal) : Type 0 where
  pub answer : told_verdict v ≡ judged eol s l n e unequal marked (given [])

-- cuts that may be made in a text of a length with its list
pub record CutsReady (l : List ℕ) (n : ℕ) (cuts : Cuts) (r : List ℕ) : Type 0 where
  pub orderly : Orderly l n cuts.len
  pub rising : cuts.first ≤ cuts.second
  pub inside : cuts.second ≤ cuts.len
  pub short : cuts.len ≤ 4294967295
  pub small : cuts.len - (cuts.second - cuts.first) + length r ≤ 4294967295

-- what settling promises
pub record Settled (eol len : ℕ) (build : List ℕ → List Listed) (l : List Listed) (e : Edit) (out out' : List ℕ) (o : Outcome) : Type 0 where
  pub answer : o ≡ settled_answer wide eol len build l e out
  pub list : out' ≡ filled_by (settled_answer wide eol len build l e out) (flatten row (amended_regions build len e l)) out

-- ---- writing
-- the rows before, the replacement's own, and the rows from `after` on
unfoldable pub parts : Gram → List ℕ → Split → Cuts → List ℕ → List Listed
parts g l split cuts r =
    moved_by 0 0 (regions_between 0 split.before l)
    ++ (up cuts.first (list_regions g r) ++ moved_by cuts.second (cuts.first + length r) (regions_between split.after split.count l))

-- what writing them asks, w numbers each
pub record Roomy (w : ℕ) (g : Gram) (l : List ℕ) (split : Split) (cuts : Cuts) (r out : List ℕ) : Type 0 where
  pub kept : Copies w l 0 split.before 0 0 out 0
  pub own : Owns w (regions g r) r cuts.first out split.before
  pub moved : Copies w l split.after split.count cuts.second (cuts.first + length r) out (split.before + length (regions g r))
