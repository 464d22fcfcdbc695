-- A scan that remembers for each byte up to which place the close of its rule was sought in vain. Assumes nothing.
-- What a step answers, and what it remembers, is said here for every memory, also one made by hand; MemoryLaws.antt says of which memories the answers are the regions of the text.
use Rattle.std.specs.Prelude.{◌≡◌, true, cond, List, ℕ, zero, suc, ◌+◌, ◌-◌, eqb, ltb, leb, length, get_or, set, Option}
use Rattle.search.specs.Search.{find, after_run}
use Rattle.common.specs.Rules.{entry}
use Rattle.common.specs.Turn.{Turn, go, stop, found, first_turn}
use Rattle.rules.specs.Grammar.{Rule, plain, sym, asym, Gram}
use Rattle.region.specs.Region.{Caused, caused}
use Rattle.region.specs.Regions.{escaped, sym_turn, asym_turn, fenced}
use Rattle.region.specs.Views.{view_next, found_region}
use Rattle.region.specs.declared.Cause.{Cause}
use Rattle.region.specs.declared.Cause.TheVariants.{Symmetric, Asymmetric}
use Rattle.region.specs.Sight.{Sight, turned, lost}
use Rattle.region.specs.declared.Region.{Region}

-- a pair that opens at p with a run of b up to r, by what the search for its close said
abbrev pub kept_pair : Cause → ℕ → ℕ → ℕ → ℕ → Turn ℕ → Sight
kept_pair k i p b r (go n) = turned (go r)
kept_pair k i p b r (stop u) = lost b r u
kept_pair k i p b r (found e n) = turned (found (caused k i true p e) e)

-- there is no search where the close was sought in vain up to r or further
abbrev pub kept_close : List ℕ → List ℕ → ℕ → ℕ → Cause → ℕ → (ℕ → Turn ℕ) → ℕ → Sight
kept_close s m p b k i close r = cond (leb r (entry 0 m b)) (turned (go r)) (kept_pair k i p b r (first_turn close (length s) r))

-- a run of b from p up to r that is not escaped
abbrev pub kept_run : List ℕ → List ℕ → ℕ → ℕ → ℕ → Cause → ℕ → (ℕ → Turn ℕ) → ℕ → Sight
kept_run s m p b count k i close r = cond (eqb (r - p) count) (kept_close s m p b k i close r) (turned (go r))

abbrev pub kept_open : Gram → List ℕ → List ℕ → ℕ → ℕ → ℕ → Cause → ℕ → (ℕ → Turn ℕ) → ℕ → Sight
kept_open g s m p b count k i close r = cond (escaped g s p) (turned (go (p + 1))) (kept_run s m p b count k i close r)

-- a byte b at p that opens no fence, by its inline rule
unfoldable pub kept_inline : Gram → List ℕ → List ℕ → ℕ → ℕ → Rule → Sight
kept_inline g s m p b plain = turned (go (p + 1))
kept_inline g s m p b (sym i count) = kept_open g s m p b count Symmetric i (sym_turn g s b count) (after_run b s p)
kept_inline g s m p b (asym i c count) = kept_open g s m p b count Asymmetric i (asym_turn g s c) (after_run b s p)

-- a turn
abbrev pub kept_at : Gram → List ℕ → List ℕ → ℕ → Sight
kept_at g s m p = cond (g.fences.opens s p) (turned (fenced g s p)) (kept_inline g s m p (get_or s p 0) (g.rule (get_or s p 0)))

abbrev pub kept_from : Gram → List ℕ → List ℕ → ℕ → ℕ → Sight
kept_from g s m q p = cond (ltb p (length s)) (kept_at g s m p) (turned (stop q))

unfoldable pub kept_turn : Gram → List ℕ → List ℕ → ℕ → Sight
kept_turn g s m q = kept_from g s m q (find g.trigger s q)

-- a scan's answer, and what it remembers
pub record Remembered : Type 0 where
  pub turn : Turn Caused
  pub memory : List ℕ

-- what a turn is to a scan that remembers m: the answer, or what k says of the memory and of the place that the scan goes on from
abbrev pub then_kept : (List ℕ → ℕ → Remembered) → List ℕ → Sight → Remembered
then_kept k m (turned (go n)) = k m n
then_kept k m (turned (stop v)) = record { turn = stop v; memory = m }
then_kept k m (turned (found r n)) = record { turn = found r n; memory = m }
then_kept k m (lost b n u) = k (set m b u) n

-- the first of at most f turns from q that does not only go on
unfoldable pub kept_scan : Gram → List ℕ → ℕ → List ℕ → ℕ → Remembered
kept_scan g s zero m q = record { turn = stop q; memory = m }
kept_scan g s (suc f) m q = then_kept (kept_scan g s f) m (kept_turn g s m q)

-- the next region from a place on, by a memory
abbrev pub kept_next : Gram → List ℕ → List ℕ → ℕ → Remembered
kept_next g s m q = kept_scan g s (suc (length s)) m q

-- what a step promises: the answer, and the memory after it
pub record KeptNext (g : Gram) (s m : List ℕ) (q : ℕ) (r : Option (Region × ℕ)) (m' : List ℕ) : Type 0 where
  pub answer : view_next r ≡ found_region (kept_next g s m q).turn
  pub memory : m' ≡ (kept_next g s m q).memory
