-- Laws of paragraphs: the ways out of the search for a byte in one. Assumes nothing.
use Rattle.std.proofs.Math.Path.{◌≡◌, sym}
use Rattle.std.specs.Prelude.{refl, Bool, List, ◌⊎◌, ℕ, ◌+◌, ◌≤◌, ◌<◌}
use Rattle.std.proofs.Common.{◌∙◌, inl, inr}
use Rattle.std.proofs.Math.Bool.{true, false, and-false, or-true}
use Rattle.std.proofs.Math.Logic.{⊎_elim}
use native.Mathlib.Omega.{arith}
use Rattle.std.proofs.Math.Dec.{eqb, ltb}
use Rattle.std.proofs.Math.ListN.{length, get_or}
use borrow.Author.Tests.{eq-eqb, ne_eqb, lt-ltb, le-ltb, ltb-true, ltb-false, le-leb, lt-leb}
use Rattle.search.specs.Promise.{Gives}
use Rattle.search.specs.Search.{is, either, holds, first_place, find, Sought}
use Rattle.search.specs.SearchLaws.{decide, is_yes, is_no, either_true, either_false, holds_in, holds-past, first_none, first_end, first-over, first-is, first_ge, find_ge, find_end, find_before, find_at, find-is, find-over}
use Rattle.lines.specs.Paragraph.{ends_at, paragraph_end, next_in}
use Rattle.lines.specs.declared.fence_tests.Hit.TheVariants as hit

module _ (eol : ℕ) (opens : ℕ → Bool) (s : List ℕ) where
  ends_eol : (q : ℕ) → holds (is eol) s q ≡ false → ends_at eol opens s q ≡ false
  unfolding ends_at
  ends_eol q e = rw e

  ends_last : (q : ℕ) → holds (is eol) s q ≡ true → length s ≤ q + 1 → ends_at eol opens s q ≡ true
  unfolding ends_at
  ends_last q e h = simp (e, le-leb (length s) (q + 1) h)

  ends_empty : (q : ℕ) → holds (is eol) s q ≡ true → holds (is eol) s (q + 1) ≡ true → ends_at eol opens s q ≡ true
  unfolding ends_at
  ends_empty q e f = simp (e, f, or-true)

  ends_fence : (q : ℕ) → holds (is eol) s q ≡ true → opens (q + 1) ≡ true → ends_at eol opens s q ≡ true
  unfolding ends_at
  ends_fence q e f = simp (e, f, or-true)

  ends_not : (q : ℕ) → q + 1 < length s → holds (is eol) s (q + 1) ≡ false → opens (q + 1) ≡ false → ends_at eol opens s q ≡ false
  unfolding ends_at
  ends_not q h e f = simp (lt-leb (length s) (q + 1) h, e, f, and-false)

  -- a paragraph that ends before the next x
  none : (x j u : ℕ) → paragraph_end eol opens s j ≡ u → u ≤ find (is x) s j → next_in eol opens s x j ≡ hit.End u
  unfolding next_in
  none x j u e h = simp (e, le-ltb (find (is x) s j) u h, and-false)

  -- two places whose search goes the same way
  same : (x j n : ℕ) → paragraph_end eol opens s j ≡ paragraph_end eol opens s n → ((x ≡ eol → ⊥) → find (is x) s j ≡ find (is x) s n) → next_in eol opens s x j ≡ next_in eol opens s x n
  unfolding next_in
  same x j n e f = by (decide (eqb x eol))
    where
      by : (eqb x eol ≡ true) ⊎ (eqb x eol ≡ false) → next_in eol opens s x j ≡ next_in eol opens s x n
      by (inl u) = simp (u, e)
      by (inr u) = simp (u, e, f (is_false' u))
        where
          is_false' : eqb x eol ≡ false → x ≡ eol → ⊥
          is_false' v w = let z : ◌≡◌ {A = Bool} true false = sym (eq-eqb x eol w) ∙ v in let y : ◌≡◌ {A = ℕ} 0 1 = cc in omega arith

-- one step: q is the next x or line end
module _ (eol : ℕ) (opens : ℕ → Bool) (s : List ℕ) (x j q : ℕ) (hq : Sought (either x eol) s j q) where
  passed : (k : ℕ) → j ≤ k → k < q → (is x (get_or s k 0) ≡ false) × (is eol (get_or s k 0) ≡ false)
  passed k h l = either_false x eol (get_or s k 0) (find_before (either x eol) s j k h (omega (arith, hq.here)))

  no_end : (k : ℕ) → j ≤ k → k < q → ends_at eol opens s k ≡ false
  no_end k h l =
      ends_eol eol opens s k
      (⊎_elim (λ (u : ltb k (length s) ≡ true). holds_in (is eol) s k (ltb-true k (length s) u) ∙ (passed k h l).1) (λ u. holds-past (is eol) s k (ltb-false k (length s) u)) (decide (ltb k (length s))))

  no_sooner : q ≤ find (is x) s j
  no_sooner = by (decide (ltb (length s) q))
    where
      by : (ltb (length s) q ≡ true) ⊎ (ltb (length s) q ≡ false) → q ≤ find (is x) s j
      by (inl u) = let l = ltb-true (length s) q u in omega (arith, hq.low, hq.high, find_ge (is x) s j)
      by (inr u) =
          let l = ltb-false (length s) q u in
          omega (arith, find-over (is x) s j q hq.low l (λ k h m. (passed k h m).0), find_ge (is x) s q)

  ends_here : q < length s → ends_at eol opens s q ≡ true → next_in eol opens s x j ≡ hit.End q
  unfolding paragraph_end
  ends_here l e = none eol opens s x j q (first-is (ends_at eol opens s) j q (length s) hq.low l no_end e) no_sooner

  pub next_past : length s ≤ q → next_in eol opens s x j ≡ hit.End q
  unfolding paragraph_end
  next_past l = none eol opens s x j q (by (decide (ltb j (length s)))) no_sooner
    where
      by : (ltb j (length s) ≡ true) ⊎ (ltb j (length s) ≡ false) → paragraph_end eol opens s j ≡ q
      by (inl u) =
          let h = ltb-true j (length s) u in
          let z : q ≡ length s = omega (arith, hq.high) in
          first_none (ends_at eol opens s) j (length s) (omega arith) (λ k a b. no_end k a (omega arith)) ∙ sym z
      by (inr u) =
          let h = ltb-false j (length s) u in
          first_end (ends_at eol opens s) j (length s) h ∙ sym (hq.here ∙ find_end (either x eol) s j h)

  module _ (inside : q < length s) where
    pub next-at : (get_or s q 0 ≡ eol → ⊥) → next_in eol opens s x j ≡ hit.At q
    unfolding next_in paragraph_end
    next-at d =
        let w = either_true x eol (get_or s q 0) (rw (← hq.here) at (find_at (either x eol) s j (omega (arith, hq.here)))) in
        let y : get_or s q 0 ≡ x = ⊎_elim (λ (a : get_or s q 0 ≡ x). a) (λ a. absurd (d a)) w in
        let f : find (is x) s j ≡ q = find-is (is x) s j q hq.low inside (λ k a b. (passed k a b).0) (is_yes x (get_or s q 0) y) in
        let p : q < first_place (ends_at eol opens s) j (length s) =
        omega (arith, first-over (ends_at eol opens s) j (q + 1) (length s) (omega (arith, hq.low)) (omega arith) miss, first_ge (ends_at eol opens s) (q + 1) (length s)) in
        simp (f, ne_eqb x eol (λ a. d (y ∙ a)), lt-ltb q (first_place (ends_at eol opens s) j (length s)) p)
      where
        miss : (k : ℕ) → j ≤ k → k < q + 1 → ends_at eol opens s k ≡ false
        miss k a b =
            ⊎_elim (λ (u : ltb k q ≡ true). no_end k a (ltb-true k q u))
            (λ u. let z : k ≡ q = omega (arith, ltb-false k q u) in rw z (ends_eol eol opens s q (holds_in (is eol) s q inside ∙ is_no eol (get_or s q 0) d))) (decide (ltb k q))

    module _ (e : get_or s q 0 ≡ eol) where
      at_eol : holds (is eol) s q ≡ true
      at_eol = holds_in (is eol) s q inside ∙ is_yes eol (get_or s q 0) e

      pub next_last : length s ≤ q + 1 → next_in eol opens s x j ≡ hit.End q
      next_last l = ends_here inside (ends_last eol opens s q at_eol l)

      pub next_empty : q + 1 < length s → get_or s (q + 1) 0 ≡ eol → next_in eol opens s x j ≡ hit.End q
      next_empty l f = ends_here inside (ends_empty eol opens s q at_eol (holds_in (is eol) s (q + 1) l ∙ is_yes eol (get_or s (q + 1) 0) f))

      pub next_fence_lem : (y : Bool) → y ≡ true → Gives (opens (q + 1)) y → next_in eol opens s x j ≡ hit.End q
      next_fence_lem y u g = ends_here inside (ends_fence eol opens s q at_eol (sym g.answer ∙ u))

      pub next_on : (y : Bool) → q + 1 < length s → (get_or s (q + 1) 0 ≡ eol → ⊥) → Gives (opens (q + 1)) y → y ≡ false → (j < q + 1) × (q + 1 ≤ length s) × (next_in eol opens s x j ≡ next_in eol opens s x (q + 1))
      unfolding paragraph_end
      next_on y l d g u = (
        omega (arith, hq.low),
        omega arith,
        same eol opens s x j (q + 1) (first-over (ends_at eol opens s) j (q + 1) (length s) (omega (arith, hq.low)) (omega arith) miss)
            (λ apart. find-over (is x) s j (q + 1) (omega (arith, hq.low)) (omega arith) (skipped apart)),
      )
        where
          miss : (k : ℕ) → j ≤ k → k < q + 1 → ends_at eol opens s k ≡ false
          miss k a b =
              ⊎_elim (λ (u : ltb k q ≡ true). no_end k a (ltb-true k q u))
              (λ v.
              let z : k ≡ q = omega (arith, ltb-false k q v) in
              rw z (ends_not eol opens s q l (holds_in (is eol) s (q + 1) l ∙ is_no eol (get_or s (q + 1) 0) d) (sym g.answer ∙ u))) (decide (ltb k q))

          skipped : (x ≡ eol → ⊥) → (k : ℕ) → j ≤ k → k < q + 1 → is x (get_or s k 0) ≡ false
          skipped apart k a b =
              ⊎_elim (λ (u : ltb k q ≡ true). (passed k a (ltb-true k q u)).0)
              (λ u. let z : k ≡ q = omega (arith, ltb-false k q u) in rw z (is_no x (get_or s q 0) (λ y. apart (sym y ∙ e)))) (decide (ltb k q))

-- the loop: from the place that it has come to, the search has the same answer
pub record Nexts (eol : ℕ) (opens : ℕ → Bool) (s : List ℕ) (x from j : ℕ) : Type 0 where
  pub same : next_in eol opens s x from ≡ next_in eol opens s x j

pub nexts_first : (eol : ℕ) (opens : ℕ → Bool) (s : List ℕ) (x j : ℕ) → Nexts eol opens s x j j
nexts_first eol opens s x j = record { same = refl }

module _ (eol : ℕ) (opens : ℕ → Bool) (s : List ℕ) (x from j q : ℕ) (w : Nexts eol opens s x from j) (hq : Sought (either x eol) s j q) where
  pub nexts_past : length s ≤ q → hit.End q ≡ next_in eol opens s x from
  nexts_past l = sym (w.same ∙ next_past eol opens s x j q hq l)

  module _ (inside : q < length s) where
    pub nexts_at : (get_or s q 0 ≡ eol → ⊥) → hit.At q ≡ next_in eol opens s x from
    nexts_at d = sym (w.same ∙ next-at eol opens s x j q hq inside d)

    module _ (e : get_or s q 0 ≡ eol) where
      pub nexts_last : length s ≤ q + 1 → hit.End q ≡ next_in eol opens s x from
      nexts_last l = sym (w.same ∙ next_last eol opens s x j q hq inside e l)

      pub nexts_empty : q + 1 < length s → get_or s (q + 1) 0 ≡ eol → hit.End q ≡ next_in eol opens s x from
      nexts_empty l f = sym (w.same ∙ next_empty eol opens s x j q hq inside e l f)

      pub nexts_fence : (y : Bool) → y ≡ true → Gives (opens (q + 1)) y → hit.End q ≡ next_in eol opens s x from
      nexts_fence y u g = sym (w.same ∙ next_fence_lem eol opens s x j q hq inside e y u g)

      pub nexts_again : (y : Bool) → q + 1 < length s → (get_or s (q + 1) 0 ≡ eol → ⊥) → Gives (opens (q + 1)) y → y ≡ false → Nexts eol opens s x from (q + 1)
      nexts_again y l d g u = record { same = w.same ∙ (next_on eol opens s x j q hq inside e y l d g u).2 }

pub ruleset next_rules = (nexts_first, nexts_past, nexts_at, nexts_last, nexts_empty, nexts_fence, nexts_again)
