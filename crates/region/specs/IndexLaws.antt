-- Fence rules at other indices: the regions are the same, and only what is said of a fence's rule changes. Assumes nothing.
use Rattle.std.specs.Prelude.{◌≡◌, Bool, List, [], ◌∷◌, ◌++◌, map, eqb, ltb, length, get_or}
use Rattle.std.proofs.Math.Path.{refl, ap, fun_ext}
use Rattle.std.proofs.Common.{sym as inv, ◌∙◌, arith}
use Rattle.std.proofs.Math.Bool.{true, false, cond}
use Prim.Native.Nat.{ℕ, ◌+◌, ◌-◌}
use Rattle.std.proofs.Math.Nat.{zero-add}
use Rattle.std.proofs.lemmas.List.{length-map}
use Rattle.search.specs.Search.{find, is, other}
use Rattle.common.specs.Entry.{flatten}
use Rattle.common.specs.Turn.{Turn, go, stop, found, first_turn, move_t}
use Rattle.common.specs.TurnLaws.{all_found-move}
use Rattle.common.specs.declared.grammar.Grammar.{Grammar}
use Rattle.rules.specs.Columns.{columns, gram_of}
use Rattle.rules.specs.Records.{rule_bytes, rule_mins, kept_bytes, kept_mins, AllGathered}
use Rattle.rules.specs.RecordLaws.{reindexed, own_place, gathered_gram}
use Rattle.rules.specs.declared.records.FenceRule.{FenceRule}
use Rattle.rules.specs.declared.records.Gathered.{Gathered}
use Rattle.rules.specs.Grammar.{Rule, plain, sym, asym, Gram}
use Rattle.lines.specs.declared.fence_tests.Hit.{Hit}
use Rattle.lines.specs.declared.fence_tests.Hit.TheVariants.{At, End}
use Rattle.region.specs.declared.Cause.{Cause}
use Rattle.region.specs.declared.Cause.TheVariants.{Fence, Symmetric, Asymmetric}
use Rattle.region.specs.Region.{Caused, Origin, retag}
use Rattle.region.specs.Regions.{shut_place, fenced_to, fenced, escaped, next_of, sym_after, sym_turn, asym_after, asym_turn, pair_of, open_pair, inline, region_at, region_turn, regions_from, regions}
use Rattle.region.specs.Ahead.{region_turn-ahead}

-- the rule that made a region, where fence rule i stands at h i
abbrev index_for : (ℕ → ℕ) → Cause → ℕ → ℕ
index_for h Fence i = h i
index_for h Symmetric i = i
index_for h Asymmetric i = i

abbrev pub reindex : (ℕ → ℕ) → Origin → Origin
reindex h o = record { cause = o.cause; index = index_for h o.cause o.index; closed = o.closed }

module _ (h : ℕ → ℕ) where
  -- a turn, told of the same place, whose fence rule stands at its other index
  Retold : Turn Caused → Turn Caused
  Retold t = move_t (retag (reindex h)) 0 t

  retold_if : (t : Bool) (x y : Turn Caused) → Retold (cond t x y) ≡ cond t (Retold x) (Retold y)
  retold_if true x y = refl
  retold_if false x y = refl

  module _ (g : Gram) (s : List ℕ) where
    fenced_retold : (p : ℕ) (t : Bool) (q : ℕ) → fenced_to (reindexed h g) s p t q ≡ Retold (fenced_to g s p t q)
    unfolding Retold
    fenced_retold p true q = rw zero-add
    fenced_retold p false q = rw zero-add

    pair_retold : (k : Cause) (i p r : ℕ) (t : Turn ℕ) → ((n : ℕ) → index_for h k n ≡ n) → pair_of k i p r t ≡ Retold (pair_of k i p r t)
    unfolding Retold
    pair_retold k i p r (go n) e = rw zero-add
    pair_retold k i p r (stop u) e = rw zero-add
    pair_retold k i p r (found x n) e = rw (zero-add, e)

    open_retold : (p count : ℕ) (k : Cause) (i : ℕ) (close : ℕ → Turn ℕ) (r : ℕ) → ((n : ℕ) → index_for h k n ≡ n) → open_pair g s p count k i close r ≡ Retold (open_pair g s p count k i close r)
    unfolding Retold
    open_retold p count k i close r e = by (escaped g s p) (eqb (r - p) count)
      where
        by : (a b : Bool) → cond a (go (p + 1)) (cond b (pair_of k i p r (first_turn close (length s) r)) (go r)) ≡ Retold (cond a (go (p + 1)) (cond b (pair_of k i p r (first_turn close (length s) r)) (go r)))
        by true b = rw zero-add
        by false true = pair_retold k i p r (first_turn close (length s) r) e
        by false false = rw zero-add

    -- what closes a pair asks for no index
    sym_retold : (b count : ℕ) → sym_turn (reindexed h g) s b count ≡ sym_turn g s b count
    unfolding sym_turn
    sym_retold b count = fun_ext (λ j. by (next_of g s b j))
      where
        by : (t : Hit) → sym_after (reindexed h g) s b count t ≡ sym_after g s b count t
        by (At q) = refl
        by (End u) = refl

    asym_retold : (c : ℕ) → asym_turn (reindexed h g) s c ≡ asym_turn g s c
    unfolding asym_turn
    asym_retold c = fun_ext (λ j. by (next_of g s c j))
      where
        by : (t : Hit) → asym_after (reindexed h g) s t ≡ asym_after g s t
        by (At q) = refl
        by (End u) = refl

    inline_retold : (p b : ℕ) (u : Rule) → inline (reindexed h g) s p b u ≡ Retold (inline g s p b u)
    unfolding Retold inline
    inline_retold p b plain = rw zero-add
    inline_retold p b (sym i count) =
        ap (λ (z : ℕ → Turn ℕ). open_pair g s p count Symmetric i z (find (other (is b)) s p)) (sym_retold b count)
        ∙ open_retold p count Symmetric i (sym_turn g s b count) (find (other (is b)) s p) (λ n. refl)
    inline_retold p b (asym i c count) =
        ap (λ (z : ℕ → Turn ℕ). open_pair g s p count Asymmetric i z (find (other (is b)) s p)) (asym_retold c)
        ∙ open_retold p count Asymmetric i (asym_turn g s c) (find (other (is b)) s p) (λ n. refl)

    at_retold : (p : ℕ) → region_at (reindexed h g) s p ≡ Retold (region_at g s p)
    unfolding shut_place
    at_retold p = by (g.fences.opens s p)
      where
        by : (t : Bool) → cond t (fenced (reindexed h g) s p) (inline (reindexed h g) s p (get_or s p 0) (g.rule (get_or s p 0))) ≡ Retold (cond t (fenced g s p) (inline g s p (get_or s p 0) (g.rule (get_or s p 0))))
        by true = fenced_retold p (ltb (shut_place g s p) (length s)) (shut_place g s p)
        by false = inline_retold p (get_or s p 0) (g.rule (get_or s p 0))

    turn_retold : (q : ℕ) → region_turn (reindexed h g) s (0 + q) ≡ Retold (region_turn g s q)
    unfolding Retold region_turn
    turn_retold q = rw zero-add (by (find g.trigger s q) (ltb (find g.trigger s q) (length s)))
      where
        by : (p : ℕ) (t : Bool) → cond t (region_at (reindexed h g) s p) (stop q) ≡ Retold (cond t (region_at g s p) (stop q))
        by p true = at_retold p
        by p false = rw zero-add

    -- the regions by rules at other indices are the regions, each with its rule's other index
    pub regions-reindexed : regions (reindexed h g) s ≡ map (retag (reindex h)) (regions g s)
    unfolding Retold regions regions_from
    regions-reindexed = rw zero-add at (all_found-move (region_turn-ahead g s) (retag (reindex h)) (region_turn (reindexed h g) s) 0 (λ q i. turn_retold q) (length s) 0 (omega arith) (omega arith))

-- what is written of regions and says nothing of the rules that made them is the same
pub flatten-retag : (f : Origin → Origin) (flat : Caused → List ℕ) → ((r : Caused) → flat (retag f r) ≡ flat r) → (l : List Caused) → flatten flat (map (retag f) l) ≡ flatten flat l
flatten-retag f flat e [] = refl
flatten-retag f flat e (r ∷ l) = ap (λ (z : List ℕ). z ++ flatten flat (map (retag f) l)) (e r) ∙ ap (λ (z : List ℕ). flat r ++ z) (flatten-retag f flat e l)

-- ---- fence rules that were gathered from a run of records
module _ (rules : List FenceRule) (f : Gathered) (w : AllGathered rules f) (g : Grammar) (y t o k n s : List ℕ) where
  -- all regions by the run's columns, and by the columns of the kept rules
  abbrev all : List Caused
  all = regions (gram_of g (columns (rule_bytes rules) (rule_mins rules) y t o k n)) s

  abbrev by_kept : List Caused
  by_kept = regions (gram_of g (columns (kept_bytes f) (kept_mins f) y t o k n)) s

  -- they are the same regions, and a kept rule's own index is the one that it has in the run
  pub gathered-regions : all ≡ map (retag (reindex (own_place f))) by_kept
  gathered-regions = ap (λ (z : Gram). regions z s) (gathered_gram rules f w g y t o k n) ∙ regions-reindexed (own_place f) (gram_of g (columns (kept_bytes f) (kept_mins f) y t o k n)) s

  pub gathered_count : length by_kept ≡ length all
  gathered_count = inv (ap length gathered-regions ∙ length-map by_kept (retag (reindex (own_place f))))

  pub gathered_flat : (flat : Caused → List ℕ) → ((h : Origin → Origin) (r : Caused) → flat (retag h r) ≡ flat r) → flatten flat by_kept ≡ flatten flat all
  gathered_flat flat e = inv (ap (flatten flat) gathered-regions ∙ flatten-retag (reindex (own_place f)) flat (e (reindex (own_place f))) by_kept)
