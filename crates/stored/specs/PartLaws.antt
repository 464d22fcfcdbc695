-- Laws of parts. Assumes nothing.
use Rattle.std.specs.Prelude.{◌≡◌, true, List, ◌⊎◌, ltb, length, get_or, set, replicate}
use Rattle.std.proofs.Math.Path.{sym, ap}
use Rattle.std.proofs.Common.{◌∙◌, inl, inr, zero-add, length-set, get_or-set_same, get_or-set_other}
use Rattle.std.proofs.Math.Bool.{false, cond}
use Rattle.std.proofs.Math.Logic.{⊎_elim}
use Prim.Native.Nat.{ℕ, ◌+◌, ◌≤◌, ◌<◌}
use native.Mathlib.Omega.{arith}
use Rattle.std.proofs.Math.Dec.{eqb}
use Rattle.std.proofs.lemmas.List.{length-replicate, get_or-replicate}
use Rattle.std.proofs.Math.Seq.{ext_get_or}
use borrow.Author.Tests.{eqb-true, eqb-false, lt-ltb, le-ltb, ltb-true, ltb-false}
use Rattle.search.specs.Promise.{Gives}
use Rattle.search.specs.SearchLaws.{decide}
use Rattle.common.specs.Rules.{tabulate}
use Rattle.common.specs.TableLaws.{length-tabulate, tabulate-at}
use Rattle.stored.specs.Parts.{front}

-- ---- an array of n that a loop fills up to e: the first i values of f stand there, and 0 behind them
pub record Fronts (f : ℕ → ℕ) (e n : ℕ) (l : List ℕ) (i : ℕ) : Type 0 where
  pub long : length l ≡ n
  pub within : i ≤ e
  pub at : (k : ℕ) → k < n → get_or l k 0 ≡ cond (ltb k i) (f k) 0

module _ (f : ℕ → ℕ) (e n : ℕ) where
  pub fronts_first : Fronts f e n (replicate n 0) 0
  fronts_first = record { long = length-replicate n 0; within = omega arith; at = λ k h. get_or-replicate n k 0 0 h ∙ sym (rw (le-ltb k 0 (omega arith))) }

  pub fronts_again : (l : List ℕ) (i x : ℕ) → i < e → i < n → Gives (f i) x → Fronts f e n l i → Fronts f e n (set l i x) (i + 1)
  fronts_again l i x h m g w = record { long = length-set l i x ∙ w.long; within = omega arith; at = at' }
    where
      before : (k : ℕ) → (k ≡ i → ⊥) → ltb k (i + 1) ≡ ltb k i
      before k d = by (decide (ltb k i))
        where
          by : (ltb k i ≡ true) ⊎ (ltb k i ≡ false) → ltb k (i + 1) ≡ ltb k i
          by (inl u) = lt-ltb k (i + 1) (omega (arith, ltb-true k i u)) ∙ sym u
          by (inr u) = le-ltb k (i + 1) (let z = ltb-false k i u in omega arith) ∙ sym u

      at' : (k : ℕ) → k < n → get_or (set l i x) k 0 ≡ cond (ltb k (i + 1)) (f k) 0
      at' k j =
          ⊎_elim (λ (u : eqb k i ≡ true). let z = eqb-true k i u in rw (z, lt-ltb i (i + 1) (omega arith)) (get_or-set_same l i x 0 (omega (arith, w.long)) ∙ g.answer))
          (λ u. let z = eqb-false k i u in get_or-set_other l i k x 0 z ∙ w.at k j ∙ sym (rw (before k z))) (decide (eqb k i))

  pub fronts_all : (l : List ℕ) (i : ℕ) → e ≤ i → Fronts f e n l i → l ≡ front f e n
  unfolding front
  fronts_all l i h w =
      let z : i ≡ e = omega (arith, w.within) in
      ext_get_or 0 l (tabulate t n 0) (w.long ∙ sym (length-tabulate t n 0))
      (λ k h. let m : k < n = omega (arith, w.long) in w.at k m ∙ ap (λ (j : ℕ). cond (ltb k j) (f k) 0) z ∙ ap t (sym (zero-add k)) ∙ sym (tabulate-at t n 0 k 0 m))
    where
      t : ℕ → ℕ
      t k = cond (ltb k e) (f k) 0
