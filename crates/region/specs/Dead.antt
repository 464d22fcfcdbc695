-- A close search that came to its paragraph's end once comes to it again from every later opener of its rule in that paragraph. Assumes nothing.
-- Both kinds of search are steps by the next of a byte: `after` says what a step makes of it.
use Rattle.std.proofs.Math.Path.{◌≡◌, refl, sym as inv, ap, subst}
use Rattle.std.proofs.Common.{◌∙◌, inl, inr, not-suc-le-zero, arith}
use Rattle.std.specs.Prelude.{Bool, not, ◌&&◌, List, ◌⊎◌, eqb, get_or}
use Rattle.std.proofs.Math.Bool.{true, false}
use Prim.Native.Nat.{ℕ, zero, suc, ◌-◌, ◌≤◌, ◌<◌}
use Rattle.std.proofs.Math.Dec.{ltb}
use Rattle.std.proofs.Math.ListN.{length}
use borrow.Author.Tests.{ltb-true, ltb-false, lt-ltb}
use Rattle.search.specs.Search.{find, is, other}
use Rattle.search.specs.SearchLaws.{decide, and_true, is_no, is_true, other_yes, holds_true, find_ge, find_le, find_hit, find_from, first_from, first-at, first_le}
use Rattle.common.specs.Items.{place_of}
use Rattle.common.specs.ItemLaws.{both}
use Rattle.lines.specs.Paragraph.{ends_at, paragraph_end, hit_at, next_in}
use Rattle.common.specs.Turn.{Turn, go, stop, found, first_turn, then_scan}
use Rattle.common.specs.Turning.{Adv}
use Rattle.common.specs.TurnLaws.{turn-ahead, scan-turn, scan_go, scan_stop, scan_found}
use Rattle.lines.specs.declared.fence_tests.Hit.{Hit}
use Rattle.lines.specs.declared.fence_tests.Hit.TheVariants.{At, End}
use Rattle.rules.specs.Grammar.{Gram}
use Rattle.region.specs.Regions.{escaped, next_of, sym_after, sym_turn, asym_after, asym_turn}
use Rattle.region.specs.Ahead.{Meets, Met, next_met, sym_turn-ahead, asym_turn-ahead}

-- which way a turn goes
way : {A : Type 0} → Turn A → ℕ
way (go n) = 0
way (stop v) = 1
way (found a n) = 2

-- a turn that finds something, or only goes on and not past k
abbrev NoFurther : ℕ → Turn ℕ → Type 0
NoFurther k (go n) = n ≤ k
NoFurther k (stop v) = ⊥
NoFurther k (found a n) = Unit {0}

module _ (g : Gram) (s : List ℕ) where
  -- where the paragraph of a place ends
  abbrev pub paragraph_end_of : ℕ → ℕ
  paragraph_end_of j = paragraph_end g.eol (g.fences.enters s) s j

  pub ends_from : (j k : ℕ) → j ≤ length s → j ≤ k → k ≤ paragraph_end_of j → paragraph_end_of j ≡ paragraph_end_of k
  unfolding paragraph_end
  ends_from j k h l m = first_from (ends_at g.eol (g.fences.enters s) s) j k (length s) h l m

  ends_le : (j : ℕ) → j ≤ length s → paragraph_end_of j ≤ length s
  unfolding paragraph_end
  ends_le j h = first_le (ends_at g.eol (g.fences.enters s) s) j (length s) h

  -- a paragraph ends at a line end or with the text
  ends_eol : (j : ℕ) → paragraph_end_of j < length s → get_or s (paragraph_end_of j) 0 ≡ g.eol
  unfolding paragraph_end ends_at
  ends_eol j l =
      is_true g.eol (get_or s (paragraph_end_of j) 0) (holds_true (is g.eol) s (paragraph_end_of j) (and_true _ _ (first-at (ends_at g.eol (g.fences.enters s) s) j (length s) l)).0).1

  -- the next x from j is before k, or it is the next from k
  next_later : (x j k : ℕ) → j ≤ k → k ≤ length s → k ≤ paragraph_end_of j → ((q : ℕ) × (j ≤ q) × (q < k) × (next_of g s x j ≡ At q)) ⊎ (next_of g s x j ≡ next_of g s x k)
  unfolding next_in
  next_later x j k h m w = by (decide (ltb (find (is x) s j) k)) (decide (eqb x g.eol))
    where
      same : paragraph_end_of j ≡ paragraph_end_of k
      same = ends_from j k (omega arith) h w

      by : (ltb (find (is x) s j) k ≡ true) ⊎ (ltb (find (is x) s j) k ≡ false) → (eqb x g.eol ≡ true) ⊎ (eqb x g.eol ≡ false)
          → ((q : ℕ) × (j ≤ q) × (q < k) × (next_of g s x j ≡ At q)) ⊎ (next_of g s x j ≡ next_of g s x k)
      by (inl u) (inl v) = inr (simp (v, same))
      by (inl u) (inr v) =
          let l = ltb-true (find (is x) s j) k u in
          inl (find (is x) s j, find_ge (is x) s j, l, simp (v, lt-ltb (find (is x) s j) (paragraph_end_of j) (omega arith)))
      by (inr u) v = inr (simp (same, find_from (is x) s j k (omega arith) h (ltb-false (find (is x) s j) k u)))

  -- what is met is before the paragraph's end, and what else is told is that end
  InParagraph : ℕ → Hit → Type 0
  InParagraph j (At q) = q < paragraph_end_of j
  InParagraph j (End v) = v ≡ paragraph_end_of j

  next-within : (x j : ℕ) → InParagraph j (next_of g s x j)
  unfolding next_in InParagraph
  next-within x j = by (not (eqb x g.eol) && ltb (find (is x) s j) (paragraph_end_of j)) refl
    where
      by : (t : Bool) → (not (eqb x g.eol) && ltb (find (is x) s j) (paragraph_end_of j)) ≡ t → InParagraph j (hit_at t (find (is x) s j) (paragraph_end_of j))
      by true e = ltb-true (find (is x) s j) (paragraph_end_of j) (and_true (not (eqb x g.eol)) (ltb (find (is x) s j) (paragraph_end_of j)) e).1
      by false e = refl

  -- a search by steps: `after` is what a step makes of the next x
  module _ (x : ℕ) (step : ℕ → Turn ℕ) (after : Hit → Turn ℕ) (adv : Adv Meets step (length s)) (is-step : (j : ℕ) → step j ≡ after (next_of g s x j))
      (over : (u : ℕ) → after (End u) ≡ stop u) where
    -- a step that only goes on from before k doesn't pass k
    abbrev Bound : ℕ → Type 0
    Bound k = (q : ℕ) → q < k → q < length s → get_or s q 0 ≡ x → (x ≡ g.eol → ⊥) → NoFurther k (after (At q))

    later : (u k : ℕ) → k ≤ length s → Bound k → (f j : ℕ) → j ≤ k → k - j < f → k ≤ paragraph_end_of j → first_turn step (length s) j ≡ stop u → first_turn step (length s) k ≡ stop u
    unfolding way
    later u k m b zero j h l w e = absurd (not-suc-le-zero l)
    later u k m b (suc f) j h l w e = by (later u k m b f) (next_later x j k h m w)
      where
        by : ((i : ℕ) → i ≤ k → k - i < f → k ≤ paragraph_end_of i → first_turn step (length s) i ≡ stop u → first_turn step (length s) k ≡ stop u)
            → ((q : ℕ) × (j ≤ q) × (q < k) × (next_of g s x j ≡ At q)) ⊎ (next_of g s x j ≡ next_of g s x k) → first_turn step (length s) k ≡ stop u
        by ih (inr same) =
            scan-turn adv k m ∙ ap (then_scan (first_turn step (length s))) (is-step k ∙ ap after (inv same) ∙ inv (is-step j)) ∙ inv (scan-turn adv j (omega arith)) ∙ e
        by ih (inl (q, low, lt, at)) = turn (after (At q)) refl (b q lt met.1 met.2 met.3)
          where
            met : Met g.eol s x j (At q)
            met = subst (Met g.eol s x j) at (next_met g.eol (g.fences.enters s) s x j (omega arith))

            turn : (t : Turn ℕ) → after (At q) ≡ t → NoFurther k t → first_turn step (length s) k ≡ stop u
            turn (go n) c le =
                let here : step j ≡ go n = is-step j ∙ ap after at ∙ c in
                let a = turn-ahead adv (omega arith) here in
                ih n le (omega arith) (omega (arith, ends_from j n (omega arith) (omega arith) (omega arith))) (inv (scan_go adv (omega arith) here) ∙ e)
            turn (stop v) c z = absurd z
            turn (found a n) c i =
                let here : step j ≡ found a n = is-step j ∙ ap after at ∙ c in
                let z : ◌≡◌ {A = ℕ} 2 1 = ap way (inv (scan_found adv (omega arith) here) ∙ e) in
                absurd (omega arith)

    -- where it stops is where the paragraph ends
    stops_at : (u : ℕ) → ((j : ℕ) → j ≤ length s → Bound (paragraph_end_of j)) → (f j : ℕ) → j ≤ length s → length s - j < f → first_turn step (length s) j ≡ stop u → u ≡ paragraph_end_of j
    unfolding way InParagraph
    stops_at u b zero j h l e = absurd (not-suc-le-zero l)
    stops_at u b (suc f) j h l e = by (stops_at u b f) (next_of g s x j) refl (next-within x j) (next_met g.eol (g.fences.enters s) s x j h)
      where
        by : ((i : ℕ) → i ≤ length s → length s - i < f → first_turn step (length s) i ≡ stop u → u ≡ paragraph_end_of i) → (t : Hit) → next_of g s x j ≡ t → InParagraph j t → Met g.eol s x j t → u ≡ paragraph_end_of j
        by ih (End v) at w met = inv (ap place_of (inv (scan_stop adv h (is-step j ∙ ap after at ∙ over v)) ∙ e)) ∙ w
        by ih (At q) at w met = turn (after (At q)) refl (b j h q w met.1 met.2 met.3)
          where
            turn : (t : Turn ℕ) → after (At q) ≡ t → NoFurther (paragraph_end_of j) t → u ≡ paragraph_end_of j
            turn (go n) c le =
                let here : step j ≡ go n = is-step j ∙ ap after at ∙ c in
                let a = turn-ahead adv h here in
                ih n a.1 (omega arith) (inv (scan_go adv h here) ∙ e) ∙ inv (ends_from j n h (omega arith) le)
            turn (stop v) c z = absurd z
            turn (found a n) c i =
                let here : step j ≡ found a n = is-step j ∙ ap after at ∙ c in
                let z : ◌≡◌ {A = ℕ} 2 1 = ap way (inv (scan_found adv h here) ∙ e) in
                absurd (omega arith)

    -- both: from k, after j and not after the place where the search from j stopped, the search stops there too
    dead : (u j k : ℕ) → (k ≤ length s → Bound k) → ((i : ℕ) → i ≤ length s → Bound (paragraph_end_of i)) → j ≤ k → k ≤ u → j ≤ length s → first_turn step (length s) j ≡ stop u → first_turn step (length s) k ≡ stop u
    dead u j k b c h l m e =
        let at = stops_at u c (suc (length s)) j m (omega arith) e in
        let w : k ≤ length s = omega (arith, ends_le j m) in
        later u k w (b w) (suc k) j h (omega arith) (omega arith) e

  -- ---- asymmetric: every later place
  asym_bound : (k q : ℕ) → q < k → NoFurther k (asym_after g s (At q))
  asym_bound k q l = both (NoFurther k) (escaped g s q) _ _ (λ u. omega arith) (λ u. tt)

  pub asym_dead : (c u j k : ℕ) → j ≤ k → k ≤ u → j ≤ length s → first_turn (asym_turn g s c) (length s) j ≡ stop u → first_turn (asym_turn g s c) (length s) k ≡ stop u
  unfolding asym_turn
  asym_dead c u j k h l m e =
      dead c (asym_turn g s c) (asym_after g s) (asym_turn-ahead g s c) (λ j. refl) (λ u. refl) u j k (λ y q i w v d. asym_bound k q i) (λ i z q o w v d. asym_bound (paragraph_end_of i) q o) h l m e

  -- ---- symmetric: every later place that is not within a run of the byte
  abbrev pub OutsideRun : ℕ → ℕ → Type 0
  OutsideRun b k = k < length s → get_or s k 0 ≡ b → ⊥

  sym_bound : (b count k q : ℕ) → k ≤ length s → OutsideRun b k → q < k → NoFurther k (sym_after g s b count (At q))
  sym_bound b count k q w z l =
      both (NoFurther k) (escaped g s q) _ _ (λ u. omega arith) (λ u. both (NoFurther k) (eqb (find (other (is b)) s q - q) count) _ _ (λ v. tt) (λ v. by (decide (ltb k (length s)))))
    where
      by : (ltb k (length s) ≡ true) ⊎ (ltb k (length s) ≡ false) → find (other (is b)) s q ≤ k
      by (inl u) = let i = ltb-true k (length s) u in find_hit (other (is b)) s q k (omega arith) i (other_yes (is b) (get_or s k 0) (is_no b (get_or s k 0) (z i)))
      by (inr u) = omega (arith, ltb-false k (length s) u, find_le (other (is b)) s q (omega arith))

  pub sym_dead : (b count u j k : ℕ) → OutsideRun b k → j ≤ k → k ≤ u → j ≤ length s → first_turn (sym_turn g s b count) (length s) j ≡ stop u → first_turn (sym_turn g s b count) (length s) k ≡ stop u
  unfolding sym_turn
  sym_dead b count u j k z h l m e =
      dead b (sym_turn g s b count) (sym_after g s b count) (sym_turn-ahead g s b count) (λ j. refl) (λ u. refl) u j k (λ y q i w v d. sym_bound b count k q y z i)
      (λ i z q o w v d. sym_bound b count (paragraph_end_of i) q (ends_le i z) (λ y a. d (inv a ∙ ends_eol i y)) o) h l m e
