-- Behind an empty line the regions of two texts are the first's and then the second's, moved up, unless one of the first's reaches its end. Assumes nothing.
-- The page: what a joint is for: "place 0, or a place k of at least 2 whose two preceding bytes are line ends, where no region starting
-- before k ends at k or later."
use Rattle.std.proofs.Math.Path.{◌≡◌, refl, sym as inv, ap, subst}
use Rattle.std.proofs.Common.{◌∙◌, not-suc-le-zero}
use Rattle.std.specs.Prelude.{Bool, false, cond, ◌⊎◌, eqb}
use Rattle.std.proofs.Math.Bool.{true, and-false, or-true}
use mathlib.Core.List.{List, ◌∷◌, ◌++◌}
use Rattle.std.proofs.Math.Logic.{inl, inr, ⊎_elim}
use Prim.Native.Nat.{ℕ, zero, suc, ◌+◌, ◌-◌, ◌≤◌, ◌<◌}
use native.Mathlib.Omega.{arith}
use Rattle.std.proofs.Math.Dec.{ltb}
use Rattle.std.proofs.Math.ListN.{length, get_or, length-append, get_or-append}
use borrow.Author.Tests.{ltb-true, ltb-false, lt-ltb, le-ltb, lt-leb}
use Rattle.search.specs.Search.{find, is, other, holds, first_place, line_end, next_line, after_line}
use Rattle.search.specs.SearchLaws.{decide, is_yes, is_no, other_yes, holds_in, holds_prefix, first_ge, first_before, first-at, first-is, first_hit, first_prefix, first_past, find_ge, find_hit, find_prefix, find_past, back_prefix, Ends, start_zero, start_pos, back_after}
use Rattle.common.specs.ItemLaws.{both}
use Rattle.lines.specs.Paragraph.{ends_at, paragraph_end, next_in}
use Rattle.common.specs.Turn.{Turn, go, stop, found, then_collect, collect, first_turn, all_found}
use Rattle.common.specs.Turning.{Adv, Leads, Finds}
use Rattle.common.specs.TurnLaws.{by_turn, collect_go, collect_found, collect_alike, scan-same, scan_fuel, has-is}
use Rattle.lines.specs.declared.fence_tests.Hit.{Hit}
use Rattle.lines.specs.declared.fence_tests.Hit.TheVariants.{At, End}
use Rattle.region.specs.declared.Cause.{Cause}
use Rattle.region.specs.declared.Cause.TheVariants.{Symmetric, Asymmetric}
use Rattle.region.specs.Region.{Region, Caused, up, reaches}
use Rattle.rules.specs.Grammar.{Rule, plain, sym, asym, Gram}
use Rattle.region.specs.Regions.{shut_place, fenced_to, fenced, odd_before, escaped, next_of, sym_after, sym_turn, asym_after, asym_turn, pair_of, open_pair, inline, region_at, region_turn, regions_from, regions}
use Rattle.region.specs.Ahead.{Lies, Meets, Met, next_met, sym_turn-ahead, asym_turn-ahead, region_turn-ahead}
use Rattle.amend.specs.Local.{Linewise, FreeLineEnd}
use Rattle.amend.specs.LocalLaws.{find-either, line_in, line_same}
use Rattle.amend.specs.Joins.{Blank, Decided}
use Rattle.amend.specs.Lists.{reaches_none, reaches_now, reaches_later}
use Rattle.amend.specs.Shift.{regions_shift}

-- ---- scans of a text of length len, with another text behind it: `step` is over the first, `step'` over both
module _ {T : Type 0} where
  -- a turn that finds a region which starts before len and ends there or later
  abbrev pub Crosses : ℕ → Turn (Region T) → Type 0
  Crosses len t = Finds (λ r n. (r.start < len) × (len ≤ r.stop)) t

  -- a turn of the first scan that says which the turn over both is: the same, the one at len, or one that crosses len, as it does itself
  abbrev pub Decides : (ℕ → Turn (Region T)) → ℕ → ℕ → Turn (Region T) → Type 0
  Decides step' len q (go n) = step' q ≡ go n
  Decides step' len q (stop v) = (k : ℕ → List (Region T)) → then_collect k (step' q) ≡ then_collect k (step' len)
  Decides step' len q (found r n) = ((r.stop < len) × (step' q ≡ found r n)) ⊎ ((len ≤ r.stop) × Crosses len (step' q))

  module _ {step step' : ℕ → Turn (Region T)} {len len' : ℕ} (adv : Adv Lies step len) (adv' : Adv Lies step' len') (fits : len ≤ len') (decides : (q : ℕ) → q ≤ len → Decides step' len q (step q)) where
    -- a region that ends before len stands in both lists
    found_inside : (q n : ℕ) (r : Region T) (l : List (Region T)) → q ≤ len → r.stop < len → step' q ≡ found r n → Decided len l (all_found step' len' n) (all_found step' len' len)
        → Decided len (r ∷ l) (all_found step' len' q) (all_found step' len' len)
    found_inside q n r l h i s =
        let e : all_found step' len' q ≡ r ∷ all_found step' len' n = collect_found adv' (omega arith) s in
        ⊎_elim (λ w. inl (reaches_later len r l i ∙ w.0, e ∙ ap (λ (z : List (Region T)). r ∷ z) w.1))
        (λ w. inr (reaches_later len r l i ∙ w.0, ap (reaches len) e ∙ reaches_later len r (all_found step' len' n) i ∙ w.1))

    -- a region that ends there or later has one beside it in the other list
    found_over : (q : ℕ) (r : Region T) (l : List (Region T)) → q ≤ len → r.start < len → len ≤ r.stop → Crosses len (step' q) → Decided len (r ∷ l) (all_found step' len' q) (all_found step' len' len)
    found_over q r l h i o c =
        let w = has-is (λ r n. (r.start < len) × (len ≤ r.stop)) (step' q) c in
        inr (reaches_now len r l i o, ap (reaches len) (collect_found adv' (omega arith) w.2) ∙ reaches_now len w.0 (all_found step' len' w.1) w.3.0 w.3.1)

    pub collect_decides : (f q : ℕ) → q ≤ len → len - q < f → Decided len (collect step f q) (all_found step' len' q) (all_found step' len' len)
    unfolding collect
    collect_decides zero q h l = absurd (not-suc-le-zero l)
    collect_decides (suc f) q h l =
        by_turn adv (λ t. Decides step' len q t → Decided len (then_collect (collect step f) t) (all_found step' len' q) (all_found step' len' len)) q h
        (λ n m i d. subst (λ (z : List (Region T)). Decided len (collect step f n) z (all_found step' len' len)) (inv (collect_go adv' (omega arith) d)) (collect_decides f n i (omega arith)))
        (λ v m i d. inl (reaches_none T len, collect_alike adv' (omega arith) fits d))
        (λ r n m i w d.
        ⊎_elim (λ (c : (r.stop < len) × (step' q ≡ found r n)). found_inside q n r (collect step f n) h c.0 c.1 (collect_decides f n i (omega arith)))
        (λ c. found_over q r (collect step f n) h (omega arith) c.0 c.1) d)
        (decides q h)

blank_ends : (eol : ℕ) (a : List ℕ) → Blank eol a → Ends eol a
blank_ends eol a two = by (decide (ltb 0 (length a)))
  where
    by : (ltb 0 (length a) ≡ true) ⊎ (ltb 0 (length a) ≡ false) → Ends eol a
    by (inl u) =
        let h = ltb-true 0 (length a) u in
        inv (start_pos eol a (length a) (λ z. omega arith)) ∙ holds_in (is eol) a (length a - 1) (omega arith) ∙ is_yes eol (get_or a (length a - 1) 0) (two h).0
    by (inr u) = inv (start_zero eol a (length a) (omega (arith, ltb-false 0 (length a) u)))

-- ---- a fence that opens in whole lines a: it is closed there, whatever follows, or by no line of a, whatever follows
module _ (g : Gram) (lines : Linewise g.eol g.fences) (a b : List ℕ) (ends : Ends g.eol a) (p : ℕ) (h : p < length a) where
  -- where its lines begin, and whether one closes it
  from : ℕ
  from = after_line g.eol a p

  closes_fence : List ℕ → ℕ → Bool
  closes_fence s q = g.fences.shuts (get_or a p 0) (g.fences.size a p) s q

  shuts-same : (q : ℕ) → from ≤ q → q < length a → closes_fence (a ++ b) q ≡ closes_fence a q
  unfolding closes_fence
  shuts-same q m l = (lines.shuts (get_or a p 0) (g.fences.size a p)).within a b ends q l

  shut_as : shut_place g (a ++ b) p ≡ first_place (closes_fence (a ++ b)) from (length (a ++ b))
  unfolding shut_place closes_fence from
  shut_as =
      let n : next_line (length (a ++ b)) (line_end g.eol a p) ≡ after_line g.eol a p = omega (arith, length-append a b, line_in g.eol a b ends p h) in
      simp (get_or-append a b 0 p h, lines.size.within a b ends p h, line_same g.eol a b ends p h, n)

  shut-same : shut_place g a p < length a → shut_place g (a ++ b) p ≡ shut_place g a p
  unfolding shut_place closes_fence from
  shut-same l = shut_as ∙ first_prefix (closes_fence a) (closes_fence (a ++ b)) from (length a) (length (a ++ b)) (omega (arith, length-append a b)) shuts-same l

  shut-over : length a ≤ shut_place g a p → length a ≤ shut_place g (a ++ b) p
  unfolding shut_place closes_fence from
  shut-over l =
      omega (arith, shut_as, first_past (closes_fence a) (closes_fence (a ++ b)) from (length a) (length (a ++ b)) (omega arith) (omega (arith, length-append a b)) shuts-same l, first_ge (closes_fence (a ++ b)) (length a) (length (a ++ b)))

  fenced_to-same : (q : ℕ) → q < length a → fenced_to g (a ++ b) p true q ≡ fenced_to g a p true q
  fenced_to-same q l =
      let n : next_line (length (a ++ b)) (line_end g.eol a q) ≡ after_line g.eol a q = omega (arith, length-append a b, line_in g.eol a b ends q l) in
      simp (get_or-append a b 0 p h, line_same g.eol a b ends q l, n)

  fenced_to-over : (t : Bool) (q : ℕ) → length a ≤ q → Crosses (length a) (fenced_to g (a ++ b) p t q)
  fenced_to-over true q l = (h, omega (arith, find_ge (is g.eol) (a ++ b) q))
  fenced_to-over false q l = (h, omega (arith, length-append a b))

  pub fenced_decides : (step' : ℕ → Turn Caused) (q : ℕ) → step' q ≡ fenced g (a ++ b) p → Decides step' (length a) q (fenced g a p)
  fenced_decides step' q e = by (ltb (shut_place g a p) (length a)) refl
    where
      by : (t : Bool) → ltb (shut_place g a p) (length a) ≡ t → Decides step' (length a) q (fenced_to g a p t (shut_place g a p))
      by true u =
          let l = ltb-true (shut_place g a p) (length a) u in
          let s = shut-same l in
          inl (line_in g.eol a b ends (shut_place g a p) l, e ∙ rw (s, lt-ltb (shut_place g a p) (length (a ++ b)) (omega (arith, length-append a b))) (fenced_to-same (shut_place g a p) l))
      by false u =
          let l = ltb-false (shut_place g a p) (length a) u in
          inr (omega arith, subst (Crosses (length a)) (inv e) (fenced_to-over (ltb (shut_place g (a ++ b) p) (length (a ++ b))) (shut_place g (a ++ b) p) (shut-over l)))

-- ---- a pair that opens in a text a which ends in an empty line: it is closed there, whatever follows, or not at all
module _ (g : Gram) (lines : Linewise g.eol g.fences) (a b : List ℕ) (two : Blank g.eol a) where
  ends : Ends g.eol a
  ends = blank_ends g.eol a two

  longer : length a ≤ length (a ++ b)
  longer = omega (arith, length-append a b)

  -- a byte that is no line end stands before the last two
  far : (p : ℕ) → p < length a → (get_or a p 0 ≡ g.eol → ⊥) → p + 3 ≤ length a
  far p h d = by (decide (ltb (p + 1) (length a))) (decide (ltb (p + 2) (length a)))
    where
      by : (ltb (p + 1) (length a) ≡ true) ⊎ (ltb (p + 1) (length a) ≡ false) → (ltb (p + 2) (length a) ≡ true) ⊎ (ltb (p + 2) (length a) ≡ false) → p + 3 ≤ length a
      by u (inl v) = omega (arith, ltb-true (p + 2) (length a) v)
      by (inl u) (inr v) =
          let z : p ≡ length a - 2 = omega (arith, ltb-true (p + 1) (length a) u, ltb-false (p + 2) (length a) v) in
          absurd (d (ap (λ (k : ℕ). get_or a k 0) z ∙ (two (omega arith)).1))
      by (inr u) (inr v) =
          let z : p ≡ length a - 1 = omega (arith, ltb-false (p + 1) (length a) u) in
          absurd (d (ap (λ (k : ℕ). get_or a k 0) z ∙ (two (omega arith)).0))

  -- a run of another byte ends before them
  run_in : (c y : ℕ) → (c ≡ g.eol → ⊥) → y + 2 ≤ length a → find (other (is c)) a y + 2 ≤ length a
  run_in c y d h =
      omega (arith, find_hit (other (is c)) a y (length a - 2) (omega arith) (omega arith) (other_yes (is c) (get_or a (length a - 2) 0) (is_no c (get_or a (length a - 2) 0) (λ e. d (inv e ∙ (two (omega arith)).1)))))

  escaped-same : (p : ℕ) → p ≤ length a → escaped g (a ++ b) p ≡ escaped g a p
  unfolding odd_before
  escaped-same p h = rw (back_prefix (is g.escape) a b p h)

  -- ---- the paragraph
  EndsIn : List ℕ → ℕ → Bool
  EndsIn s q = ends_at g.eol (g.fences.enters s) s q

  ends_same : (q : ℕ) → q + 2 ≤ length a → EndsIn (a ++ b) q ≡ EndsIn a q
  unfolding EndsIn ends_at
  ends_same q h =
      let m = longer in
      simp (holds_prefix (is g.eol) a b q (omega arith), holds_prefix (is g.eol) a b (q + 1) (omega arith), lines.enters.within a b ends (q + 1) (omega arith), lt-leb (length (a ++ b)) (q + 1) (omega arith), lt-leb (length a) (q + 1) (omega arith))

  ends_blank : 2 ≤ length a → EndsIn a (length a - 2) ≡ true
  unfolding EndsIn ends_at
  ends_blank h =
      let z : length a - 2 + 1 ≡ length a - 1 = omega arith in
      let x : holds (is g.eol) a (length a - 2) ≡ true = holds_in (is g.eol) a (length a - 2) (omega arith) ∙ is_yes g.eol (get_or a (length a - 2) 0) (two (omega arith)).1 in
      let y : holds (is g.eol) a (length a - 1) ≡ true = holds_in (is g.eol) a (length a - 1) (omega arith) ∙ is_yes g.eol (get_or a (length a - 1) 0) (two (omega arith)).0 in
      simp (z, x, y, or-true)

  paragraph_same : (j : ℕ) → j + 2 ≤ length a → paragraph_end g.eol (g.fences.enters (a ++ b)) (a ++ b) j ≡ paragraph_end g.eol (g.fences.enters a) a j
  unfolding paragraph_end EndsIn
  paragraph_same j h =
      let m = longer in
      let u = first_place (EndsIn a) j (length a) in
      let l : u ≤ length a - 2 = first_hit (EndsIn a) j (length a - 2) (length a) (omega arith) (omega arith) (ends_blank (omega arith)) in
      first-is (EndsIn (a ++ b)) j u (length (a ++ b)) (first_ge (EndsIn a) j (length a)) (omega arith) (λ k d e. ends_same k (omega arith) ∙ first_before (EndsIn a) j (length a) k d e) (ends_same u (omega arith) ∙ first-at (EndsIn a) j (length a) (omega arith))

  paragraph_in : (j : ℕ) → j + 2 ≤ length a → paragraph_end g.eol (g.fences.enters a) a j ≤ length a
  unfolding paragraph_end EndsIn
  paragraph_in j h = omega (arith, first_hit (EndsIn a) j (length a - 2) (length a) (omega arith) (omega arith) (ends_blank (omega arith)))

  next_of-same : (x j : ℕ) → j + 2 ≤ length a → next_of g (a ++ b) x j ≡ next_of g a x j
  unfolding next_in
  next_of-same x j h = by (find-either (is x) a b j (omega arith))
    where
      u : ℕ
      u = paragraph_end g.eol (g.fences.enters a) a j

      by : (find (is x) (a ++ b) j ≡ find (is x) a j) ⊎ ((find (is x) a j ≡ length a) × (length a ≤ find (is x) (a ++ b) j)) → next_of g (a ++ b) x j ≡ next_of g a x j
      by (inl e) = simp (paragraph_same j h, e)
      by (inr e) =
          let m = paragraph_in j h in
          simp (paragraph_same j h, le-ltb (find (is x) (a ++ b) j) u (omega arith), le-ltb (find (is x) a j) u (omega arith), and-false)

  -- ---- the search for a close
  LeadsInside : Turn ℕ → Type 0
  LeadsInside t = Leads (λ n. n + 2 ≤ length a) (λ t. Unit {0}) t

  sym_after-same : (c count j : ℕ) (t : Hit) → Met g.eol a c j t → sym_after g (a ++ b) c count t ≡ sym_after g a c count t
  sym_after-same c count j (At q) m =
      let l = far q m.1 (λ z. m.3 (inv m.2 ∙ z)) in
      let r = run_in c q m.3 (omega arith) in
      simp (escaped-same q (omega arith), find_prefix (other (is c)) a b q (omega arith))
  sym_after-same c count j (End u) m = refl

  sym_after_stays : (c count j : ℕ) (t : Hit) → Met g.eol a c j t → LeadsInside (sym_after g a c count t)
  unfolding LeadsInside
  sym_after_stays c count j (At q) m =
      let l = far q m.1 (λ z. m.3 (inv m.2 ∙ z)) in
      both LeadsInside (escaped g a q) _ _ (λ u. omega arith) (λ u. both LeadsInside (eqb (find (other (is c)) a q - q) count) _ _ (λ v. tt) (λ v. run_in c q m.3 (omega arith)))
  sym_after_stays c count j (End u) m = tt

  sym_turn-same : (c count j : ℕ) → j + 2 ≤ length a → sym_turn g (a ++ b) c count j ≡ sym_turn g a c count j
  unfolding sym_turn
  sym_turn-same c count j h = ap (sym_after g (a ++ b) c count) (next_of-same c j h) ∙ sym_after-same c count j (next_of g a c j) (next_met g.eol (g.fences.enters a) a c j (omega arith))

  sym_turn_stays : (c count j : ℕ) → j + 2 ≤ length a → LeadsInside (sym_turn g a c count j)
  unfolding sym_turn
  sym_turn_stays c count j h = sym_after_stays c count j (next_of g a c j) (next_met g.eol (g.fences.enters a) a c j (omega arith))

  asym_after-same : (c j : ℕ) (t : Hit) → Met g.eol a c j t → asym_after g (a ++ b) t ≡ asym_after g a t
  asym_after-same c j (At q) m = simp (escaped-same q (omega arith))
  asym_after-same c j (End u) m = refl

  asym_after_stays : (c j : ℕ) (t : Hit) → Met g.eol a c j t → LeadsInside (asym_after g a t)
  unfolding LeadsInside
  asym_after_stays c j (At q) m =
      let l = far q m.1 (λ z. m.3 (inv m.2 ∙ z)) in
      both LeadsInside (escaped g a q) _ _ (λ u. omega arith) (λ u. tt)
  asym_after_stays c j (End u) m = tt

  asym_turn-same : (c j : ℕ) → j + 2 ≤ length a → asym_turn g (a ++ b) c j ≡ asym_turn g a c j
  unfolding asym_turn
  asym_turn-same c j h = ap (asym_after g (a ++ b)) (next_of-same c j h) ∙ asym_after-same c j (next_of g a c j) (next_met g.eol (g.fences.enters a) a c j (omega arith))

  asym_turn_stays : (c j : ℕ) → j + 2 ≤ length a → LeadsInside (asym_turn g a c j)
  unfolding asym_turn
  asym_turn_stays c j h = asym_after_stays c j (next_of g a c j) (next_met g.eol (g.fences.enters a) a c j (omega arith))

  -- ---- a pair whose opening run is of c
  open_pair-same : (c p count : ℕ) (k : Cause) (i : ℕ) (close close' : ℕ → Turn ℕ) → Adv Meets close (length a) → ((q : ℕ) → q + 2 ≤ length a → close' q ≡ close q) → ((q : ℕ) → q + 2 ≤ length a → LeadsInside (close q)) → p < length a → get_or a p 0 ≡ c → (c ≡ g.eol → ⊥)
      → open_pair g (a ++ b) p count k i close' (find (other (is c)) (a ++ b) p) ≡ open_pair g a p count k i close (find (other (is c)) a p)
  unfolding LeadsInside
  open_pair-same c p count k i close close' adv same stays h e d =
      let l = far p h (λ z. d (inv e ∙ z)) in
      let r = find (other (is c)) a p in
      let m = run_in c p d (omega arith) in
      let n = longer in
      let closes : first_turn close' (length (a ++ b)) r ≡ first_turn close (length a) r =
      scan-same close close' (λ n. n + 2 ≤ length a) same stays (suc (length (a ++ b))) r m ∙ scan_fuel adv (suc (length (a ++ b))) (suc (length a)) r (omega arith) (omega arith) (omega arith) in
      simp (find_prefix (other (is c)) a b p (omega arith), escaped-same p (omega arith), closes)

  -- ---- the turn at a trigger: no end, and a region that starts in a
  StartsInside : Turn Caused → Type 0
  StartsInside (go n) = Unit {0}
  StartsInside (stop v) = ⊥
  StartsInside (found r n) = r.start < length a

  pair_of_starts : (k : Cause) (i p r : ℕ) (t : Turn ℕ) → p < length a → StartsInside (pair_of k i p r t)
  unfolding StartsInside
  pair_of_starts k i p r (go n) h = tt
  pair_of_starts k i p r (stop v) h = tt
  pair_of_starts k i p r (found e n) h = h

  open_pair_starts : (p count : ℕ) (k : Cause) (i : ℕ) (close : ℕ → Turn ℕ) (r : ℕ) → p < length a → StartsInside (open_pair g a p count k i close r)
  unfolding StartsInside
  open_pair_starts p count k i close r h =
      both StartsInside (escaped g a p) _ _ (λ t. tt) (λ t. both StartsInside (eqb (r - p) count) _ _ (λ u. pair_of_starts k i p r (first_turn close (length a) r) h) (λ u. tt))

  inline_starts : (p c : ℕ) (u : Rule) → p < length a → StartsInside (inline g a p c u)
  unfolding inline StartsInside
  inline_starts p c plain h = tt
  inline_starts p c (sym i count) h = open_pair_starts p count Symmetric i (sym_turn g a c count) (find (other (is c)) a p) h
  inline_starts p c (asym i k count) h = open_pair_starts p count Asymmetric i (asym_turn g a k) (find (other (is c)) a p) h

  decides_same : (step' : ℕ → Turn Caused) (q : ℕ) (t : Turn Caused) → StartsInside t → step' q ≡ t → Decides step' (length a) q t
  unfolding StartsInside
  decides_same step' q (go n) i e = e
  decides_same step' q (stop v) i e = absurd i
  decides_same step' q (found r n) i e =
      ⊎_elim (λ (u : ltb r.stop (length a) ≡ true). inl (ltb-true r.stop (length a) u, e))
      (λ u. inr (ltb-false r.stop (length a) u, subst (Crosses (length a)) (inv e) (i, ltb-false r.stop (length a) u))) (decide (ltb r.stop (length a)))

  -- ---- regions, where the line end opens no pair and is no escape
  module _ (apart : FreeLineEnd g) where
    inline-same : (p : ℕ) (u : Rule) → p < length a → g.rule (get_or a p 0) ≡ u → inline g (a ++ b) p (get_or a p 0) u ≡ inline g a p (get_or a p 0) u
    unfolding inline
    inline-same p plain h e = refl
    inline-same p (sym i count) h e =
        let c = get_or a p 0 in
        open_pair-same c p count Symmetric i (sym_turn g a c count) (sym_turn g (a ++ b) c count) (sym_turn-ahead g a c count) (sym_turn-same c count) (sym_turn_stays c count) h refl
        (λ z. let y : sym i count ≡ plain = inv e ∙ ap g.rule z ∙ apart.opener in let x : ◌≡◌ {A = ℕ} 0 1 = cc in omega arith)
    inline-same p (asym i k count) h e =
        let c = get_or a p 0 in
        open_pair-same c p count Asymmetric i (asym_turn g a k) (asym_turn g (a ++ b) k) (asym_turn-ahead g a k) (asym_turn-same k) (asym_turn_stays k) h refl
        (λ z. let y : asym i k count ≡ plain = inv e ∙ ap g.rule z ∙ apart.opener in let x : ◌≡◌ {A = ℕ} 0 1 = cc in omega arith)

    region_at_decides : (step' : ℕ → Turn Caused) (q p : ℕ) → p < length a → step' q ≡ region_at g (a ++ b) p → Decides step' (length a) q (region_at g a p)
    region_at_decides step' q p h e = by (g.fences.opens a p) refl
      where
        c : ℕ
        c = get_or a p 0

        opens : g.fences.opens (a ++ b) p ≡ g.fences.opens a p
        opens = lines.opens.within a b ends p h

        by : (t : Bool) → g.fences.opens a p ≡ t → Decides step' (length a) q (cond t (fenced g a p) (inline g a p c (g.rule c)))
        by true u = fenced_decides g lines a b ends p h step' q (e ∙ rw (opens, u))
        by false u = decides_same step' q (inline g a p c (g.rule c)) (inline_starts p c (g.rule c) h) (e ∙ rw (opens, u, get_or-append a b 0 p h) (inline-same p (g.rule c) h refl))

    region_turn_decides : (q : ℕ) → q ≤ length a → Decides (region_turn g (a ++ b)) (length a) q (region_turn g a q)
    unfolding region_turn
    region_turn_decides q h = by (ltb (find g.trigger a q) (length a)) refl
      where
        p : ℕ
        p = find g.trigger a q

        alike : (k : ℕ → List Caused) (t : Bool) (x : Turn Caused) (v w : ℕ) → then_collect k (cond t x (stop v)) ≡ then_collect k (cond t x (stop w))
        alike k true x v w = refl
        alike k false x v w = refl

        by : (t : Bool) → ltb p (length a) ≡ t → Decides (region_turn g (a ++ b)) (length a) q (cond t (region_at g a p) (stop q))
        by true u =
            let l = ltb-true p (length a) u in
            let m = longer in
            region_at_decides (region_turn g (a ++ b)) q p l (rw (find_prefix g.trigger a b q l, lt-ltb p (length (a ++ b)) (omega arith)))
        by false u =
            λ k. rw (find_past g.trigger a b q h (ltb-false p (length a) u))
            (alike k (ltb (find g.trigger (a ++ b) (length a)) (length (a ++ b))) (region_at g (a ++ b) (find g.trigger (a ++ b) (length a))) q (length a))

    -- either no region of a reaches its end, and the regions of both are those of a and then those of b, moved up; or one does, in both
    pub regions_decided : Decided (length a) (regions g a) (regions g (a ++ b)) (up (length a) (regions g b))
    unfolding regions regions_from
    regions_decided =
        subst (λ (l : List Caused). Decided (length a) (regions g a) (regions g (a ++ b)) l) (regions_shift g lines a b ends (back_after g.escape g.eol a ends apart.escape))
        (collect_decides (region_turn-ahead g a) (region_turn-ahead g (a ++ b)) longer region_turn_decides (suc (length a)) 0 (omega arith) (omega arith))
