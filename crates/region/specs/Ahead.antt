-- Every turn of the region scan moves on within the text, over any grammar; so a text's regions are in order. Assumes nothing.
use Rattle.std.specs.Prelude.{◌≡◌, refl, Bool, true, false, not, ◌&&◌, List, [], ◌∷◌, map, ℕ, zero, suc, ◌+◌, ◌-◌, ◌*◌, ◌/◌, ◌≤◌, ◌<◌, min, eqb, ltb, get_or}
use native.Mathlib.Omega.{arith}
use Rattle.std.proofs.Math.ListN.{length}
use borrow.Author.Tests.{ltb-true, eq-eqb}
use Rattle.search.specs.Search.{find, is, other, after_line}
use Rattle.search.specs.SearchLaws.{clash, and_true, is_yes, is_true, other_no, find_ge, find_le, find-next, find_at, first_ge, first_le}
use Rattle.common.specs.Entry.{Shaped}
use Rattle.common.specs.ItemLaws.{both}
use Rattle.lines.specs.Paragraph.{ends_at, paragraph_end, hit_at, next_in}
use Rattle.common.specs.Turn.{Turn, go, stop, found, then_collect, collect, first_turn}
use Rattle.common.specs.Turning.{Ahead, Last, Adv}
use Rattle.common.specs.TurnLaws.{by_turn, adv_weaken, scan_last}
use Rattle.lines.specs.declared.fence_tests.Hit.{Hit}
use Rattle.lines.specs.declared.fence_tests.Hit.TheVariants.{At, End}
use Rattle.region.specs.declared.Cause.{Cause}
use Rattle.region.specs.declared.Cause.TheVariants.{Symmetric, Asymmetric}
use Rattle.region.specs.Region.{Region, Caused, InOrder, row_of}
use Rattle.rules.specs.Grammar.{Rule, plain, sym, asym, Gram}
use Rattle.region.specs.Regions.{shut_place, fenced_to, fenced, escaped, next_of, sym_after, sym_turn, asym_after, asym_turn, pair_of, open_pair, inline, region_turn, regions_from, regions}

-- a region that is not empty, between the place that a turn stood at and the one that it goes on from
abbrev pub Lies : {T : Type 0} → ℕ → ℕ → Region T → Type 0
Lies q n r = (q ≤ r.start) × (r.start < r.stop) × (r.stop ≤ n)

-- such a region, with its turn at least two places further on unless the text ends
abbrev pub Far : {T : Type 0} → ℕ → ℕ → ℕ → Region T → Type 0
Far len q n r = (q ≤ r.start) × (r.start < r.stop) × (r.stop ≤ n) × (min (q + 2) len ≤ n)

-- a pair's end, which is where its search goes on
abbrev pub Meets : ℕ → ℕ → ℕ → Type 0
Meets q n e = e ≡ n

-- an x that a paragraph's search from j met, which is no line end; or where it ended
abbrev pub Met : ℕ → List ℕ → ℕ → ℕ → Hit → Type 0
Met eol s x j (At q) = (j ≤ q) × (q < length s) × (get_or s q 0 ≡ x) × (x ≡ eol → ⊥)
Met eol s x j (End u) = (j ≤ u) × (u ≤ length s)

-- a run that begins at q is not empty
pub run_past : (b : ℕ) (s : List ℕ) (q : ℕ) → q < length s → get_or s q 0 ≡ b → q < find (other (is b)) s q
run_past b s q h e = omega (arith, find-next (other (is b)) s q h (other_no (is b) (get_or s q 0) (is_yes b (get_or s q 0) e)), find_ge (other (is b)) s (q + 1))

-- ---- the next byte of a paragraph
pub next_met : (eol : ℕ) (opens : ℕ → Bool) (s : List ℕ) (x j : ℕ) → j ≤ length s → Met eol s x j (next_in eol opens s x j)
unfolding next_in paragraph_end
next_met eol opens s x j h =
    by (not (eqb x eol) && ltb (find (is x) s j) (paragraph_end eol opens s j)) refl
  where
    by : (t : Bool) → (not (eqb x eol) && ltb (find (is x) s j) (paragraph_end eol opens s j)) ≡ t → Met eol s x j (hit_at t (find (is x) s j) (paragraph_end eol opens s j))
    by true e =
        let w = and_true (not (eqb x eol)) (ltb (find (is x) s j) (paragraph_end eol opens s j)) e in
        let l : find (is x) s j < length s = omega (arith, ltb-true (find (is x) s j) (paragraph_end eol opens s j) w.1, first_le (ends_at eol opens s) j (length s) h) in
        (find_ge (is x) s j, l, is_true x (get_or s (find (is x) s j) 0) (find_at (is x) s j l), λ z. clash w.0 (rw (eq-eqb x eol z)))
    by false e = (first_ge (ends_at eol opens s) j (length s), first_le (ends_at eol opens s) j (length s) h)

module _ (g : Gram) (s : List ℕ) where
  -- ---- fences
  pub shut_low : (p : ℕ) → p < length s → p < shut_place g s p
  unfolding shut_place
  shut_low p h =
      omega (arith, find_ge (is g.eol) s p, first_ge (g.fences.shuts (get_or s p 0) (g.fences.size s p) s) (after_line g.eol s p) (length s))

  fenced-ahead : (q p : ℕ) → q ≤ p → p < length s → Ahead (Far (length s)) q (length s) (fenced g s p)
  fenced-ahead q p h l = by (ltb (shut_place g s p) (length s)) refl
    where
      by : (t : Bool) → ltb (shut_place g s p) (length s) ≡ t → Ahead (Far (length s)) q (length s) (fenced_to g s p t (shut_place g s p))
      by true u =
          let v = ltb-true (shut_place g s p) (length s) u in
          let low = shut_low p l in
          let from = find_ge (is g.eol) s (shut_place g s p) in
          let to = find_le (is g.eol) s (shut_place g s p) (omega arith) in
          (omega arith, omega arith, (h, omega arith, omega arith, omega arith))
      by false u = (omega arith, omega arith, (h, l, omega arith, omega arith))

  -- ---- pairs
  sym_after-ahead : (b count j : ℕ) (t : Hit) → Met g.eol s b j t → Ahead Meets j (length s) (sym_after g s b count t)
  sym_after-ahead b count j (At q) m =
      let A = Ahead Meets j (length s) in
      let r = find (other (is b)) s q in
      let past = run_past b s q m.1 m.2 in
      let in-text = find_le (other (is b)) s q (omega arith) in
      both A (escaped g s q) _ _ (λ u. (omega arith, omega arith)) (λ u. both A (eqb (r - q) count) _ _ (λ v. (omega arith, in-text, refl)) (λ v. (omega arith, in-text)))
  sym_after-ahead b count j (End u) m = m

  pub sym_turn-ahead : (b count : ℕ) → Adv Meets (sym_turn g s b count) (length s)
  unfolding sym_turn
  sym_turn-ahead b count = record { ahead = λ j h. sym_after-ahead b count j (next_of g s b j) (next_met g.eol (g.fences.enters s) s b j h) }

  asym_after-ahead : (c j : ℕ) (t : Hit) → Met g.eol s c j t → Ahead Meets j (length s) (asym_after g s t)
  asym_after-ahead c j (At q) m = both (Ahead Meets j (length s)) (escaped g s q) _ _ (λ u. (omega arith, omega arith)) (λ u. (omega arith, omega arith, refl))
  asym_after-ahead c j (End u) m = m

  pub asym_turn-ahead : (c : ℕ) → Adv Meets (asym_turn g s c) (length s)
  unfolding asym_turn
  asym_turn-ahead c = record { ahead = λ j h. asym_after-ahead c j (next_of g s c j) (next_met g.eol (g.fences.enters s) s c j h) }

  pair_of-ahead : (k : Cause) (i q p r : ℕ) (t : Turn ℕ) → q ≤ p → p < r → r ≤ length s → Last Meets r (length s) t → Ahead (Far (length s)) q (length s) (pair_of k i p r t)
  pair_of-ahead k i q p r (go n) h m w l = absurd l
  pair_of-ahead k i q p r (stop u) h m w l = (omega arith, w)
  pair_of-ahead k i q p r (found e n) h m w l = (omega arith, omega arith, (h, omega arith, omega arith, omega arith))

  open_pair-ahead : (q p count : ℕ) (k : Cause) (i : ℕ) (close : ℕ → Turn ℕ) (r : ℕ) → Adv Meets close (length s) → q ≤ p → p < r → r ≤ length s → Ahead (Far (length s)) q (length s) (open_pair g s p count k i close r)
  open_pair-ahead q p count k i close r adv h l e =
      let A = Ahead (Far (length s)) q (length s) in
      both A (escaped g s p) _ _ (λ t. (omega arith, omega arith))
      (λ t. both A (eqb (r - p) count) _ _ (λ v. pair_of-ahead k i q p r (first_turn close (length s) r) h l e (scan_last adv (λ q n m a i w. w) (suc (length s)) r e)) (λ v. (omega arith, e)))

  inline-ahead : (q p b : ℕ) (u : Rule) → q ≤ p → p < length s → get_or s p 0 ≡ b → Ahead (Far (length s)) q (length s) (inline g s p b u)
  unfolding inline
  inline-ahead q p b plain h l e = (omega arith, omega arith)
  inline-ahead q p b (sym i count) h l e = open_pair-ahead q p count Symmetric i (sym_turn g s b count) (find (other (is b)) s p) (sym_turn-ahead b count) h (run_past b s p l e) (find_le (other (is b)) s p (omega arith))
  inline-ahead q p b (asym i c count) h l e = open_pair-ahead q p count Asymmetric i (asym_turn g s c) (find (other (is b)) s p) (asym_turn-ahead c) h (run_past b s p l e) (find_le (other (is b)) s p (omega arith))

  -- ---- regions
  region_turn_far : Adv (Far (length s)) (region_turn g s) (length s)
  unfolding region_turn
  region_turn_far = record { ahead = ahead }
    where
      ahead : (q : ℕ) → q ≤ length s → Ahead (Far (length s)) q (length s) (region_turn g s q)
      ahead q h =
          let A = Ahead (Far (length s)) q (length s) in
          let p = find g.trigger s q in
          let low = find_ge g.trigger s q in
          both A (ltb p (length s)) _ _
          (λ t. let l = ltb-true p (length s) t in both A (g.fences.opens s p) _ _ (λ u. fenced-ahead q p low l) (λ u. inline-ahead q p (get_or s p 0) (g.rule (get_or s p 0)) low l refl))
          (λ t. (omega arith, h))

  pub region_turn-ahead : Adv Lies (region_turn g s) (length s)
  region_turn-ahead = adv_weaken region_turn_far Lies (λ q n r w. (w.0, w.1, w.2))

-- ---- what such turns find is in order
pub order_later : {T : Type 0} (q n len : ℕ) (l : List (Region T)) → q ≤ n → InOrder n len l → InOrder q len l
order_later q n len [] h w = tt
order_later q n len (r ∷ l) h w = (omega arith, w.1, w.2, w.3)

pub collect_in_order : {T : Type 0} {step : ℕ → Turn (Region T)} {len : ℕ} → Adv Lies step len → (f q : ℕ) → q ≤ len → InOrder q len (collect step f q)
unfolding collect
collect_in_order adv zero q h = tt
collect_in_order {step = step} {len = len} adv (suc f) q h =
    by_turn adv (λ t. InOrder q len (then_collect (collect step f) t)) q h (λ n m i. order_later q n len (collect step f n) (omega arith) (collect_in_order adv f n i)) (λ v m i. tt)
    (λ r n m i w. (w.0, w.1, omega arith, order_later r.stop n len (collect step f n) w.2 (collect_in_order adv f n i)))

pub regions_in_order : (g : Gram) (s : List ℕ) → InOrder 0 (length s) (regions g s)
unfolding regions regions_from
regions_in_order g s = collect_in_order (region_turn-ahead g s) (suc (length s)) 0 (omega arith)

-- and so are their rows
order_shaped : (from len : ℕ) (l : List Caused) → InOrder from len l → Shaped from len (map row_of l)
order_shaped from len [] w = tt
order_shaped from len (r ∷ l) w = (w.0, w.1, w.2, order_shaped r.stop len l w.3)

pub regions-shaped : (g : Gram) (s : List ℕ) → Shaped 0 (length s) (map row_of (regions g s))
regions-shaped g s = order_shaped 0 (length s) (regions g s) (regions_in_order g s)

-- ---- there are at most half as many regions as places, and one more
few : {T : Type 0} {step : ℕ → Turn (Region T)} {len : ℕ} → Adv (Far len) step len → (f q : ℕ) → q ≤ len → 2 * length (collect step f q) ≤ len - q + 1
unfolding collect
few adv zero q h = omega arith
few {step = step} {len = len} adv (suc f) q h =
    by_turn adv (λ t. 2 * length (then_collect (collect step f) t) ≤ len - q + 1) q h (λ n m i. omega (arith, few adv f n i)) (λ v m i. omega arith) (λ r n m i w. omega (arith, few adv f n i, w.3))

pub regions-few : (g : Gram) (s : List ℕ) → length (regions g s) ≤ length s / 2 + 1
unfolding regions regions_from
regions-few g s = omega (arith, few (region_turn_far g s) (suc (length s)) 0 (omega arith))
