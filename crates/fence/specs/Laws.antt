-- Laws of the fence scanner: places that a search may pass over, the ways out of its functions, that its turns move on, and that its promises leave one answer. Assumes nothing.
use Rattle.std.specs.Prelude.{◌≡◌, refl, Bool, true, false, cond, ◌&&◌, List, [], ◌⊎◌, ℕ, ◌+◌, ◌-◌, ◌≤◌, ◌<◌, ltb, leb, length, get_or, None, Ok, Option, Some}
use Rattle.std.proofs.Math.Path.{sym, ap}
use Rattle.std.proofs.Common.{◌∙◌, inl, inr, ⊎_elim}
use Rattle.std.proofs.Math.Bool.{and-false}
use native.Mathlib.Omega.{arith}
use borrow.Author.Tests.{lt-ltb, le-ltb, ltb-true, ltb-false, le-leb, lt-leb, leb-false}
use Rattle.search.specs.Promise.{Gives, Steps, steps_unique}
use Rattle.search.specs.Search.{is, either, other, holds, first_place, find, Sought, line_start, line_end, next_line}
use Rattle.search.specs.SearchLaws.{decide, clash, and_true, is_yes, either_true, either_false, other_no, holds_in, holds-past, holds_true, first_ge, first_none, first_end, first-over, first_here, find_ge, sought, find_before, find_at, find-over, find_hit, find_from, find-next, line_one}
use Rattle.lines.specs.Fences.{run_count, opens_run, closes_run}
use Rattle.common.specs.Refusals.{given, refused, span_values, told_span}
use Rattle.common.specs.RefusalLaws.{span_unique}
use Rattle.common.specs.Turn.{Turn, go, stop, found, first_turn}
use Rattle.common.specs.Turning.{Ahead, Adv}
use Rattle.common.specs.ItemLaws.{step_long, step_past, step_seen}
use Rattle.fence.specs.Fence.{Fence, at, whole_run_end, run_line, after_run_line, begins, closes, span_end, close_end, fence_at, open_line, open_turn, rests, first_open, answer, state}
use Rattle.fence.specs.Steps.{Kept}
use Rattle.fence.specs.declared.FenceIter.{FenceIter}
use Rattle.fence.specs.declared.FenceStep.{FenceStep}

-- ---- a run of the fence byte that begins at q
module _ (g : FenceIter) (s : List ℕ) where
  pub begins_true : (k : ℕ) → begins g s k ≡ true → (line_start g.eol s k ≡ true) × (holds (is g.byte) s k ≡ true)
  unfolding begins
  begins_true k e = and_true (line_start g.eol s k) (holds (is g.byte) s k) e

  begins_yes : (k : ℕ) → line_start g.eol s k ≡ true → holds (is g.byte) s k ≡ true → begins g s k ≡ true
  unfolding begins
  begins_yes k e f = rw (e, f)

  begins_start : (k : ℕ) → line_start g.eol s k ≡ false → begins g s k ≡ false
  unfolding begins
  begins_start k e = rw e

  begins_byte : (k : ℕ) → holds (is g.byte) s k ≡ false → begins g s k ≡ false
  unfolding begins
  begins_byte k e = rw e (and-false (line_start g.eol s k))

  module _ (q : ℕ) (here : holds (is g.byte) s q ≡ true) where
    -- it is not empty
    pub run_some : q < whole_run_end g s q
    run_some =
        let w = holds_true (is g.byte) s q here in
        omega (arith, find-next (other (is g.byte)) s q w.0 (other_no (is g.byte) (get_or s q 0) w.1), find_ge (other (is g.byte)) s (q + 1))

    -- its parts end where it does
    run_same : (k : ℕ) → q ≤ k → k ≤ whole_run_end g s q → whole_run_end g s k ≡ whole_run_end g s q
    run_same k h l = sym (find_from (other (is g.byte)) s q k (let w = holds_true (is g.byte) s q here in omega arith) h l)

    -- up to its line's end no other run begins a line than a part of it
    run_only : (k : ℕ) → k ≤ run_line g s q → begins g s k ≡ true → k < whole_run_end g s q
    run_only k l b = by (decide (ltb k (whole_run_end g s q))) (decide (ltb (whole_run_end g s q) k))
      where
        by : (ltb k (whole_run_end g s q) ≡ true) ⊎ (ltb k (whole_run_end g s q) ≡ false) → (ltb (whole_run_end g s q) k ≡ true) ⊎ (ltb (whole_run_end g s q) k ≡ false) → k < whole_run_end g s q
        by (inl u) v = ltb-true k (whole_run_end g s q) u
        by (inr u) (inl v) = absurd (clash (begins_true k b).0 (line_one g.eol s (whole_run_end g s q) k (ltb-true (whole_run_end g s q) k v) l))
        by (inr u) (inr v) =
            let z : k ≡ whole_run_end g s q = omega (arith, ltb-false k (whole_run_end g s q) u, ltb-false (whole_run_end g s q) k v) in
            let w = holds_true (is g.byte) s k (begins_true k b).1 in
            absurd (clash (find_at (other (is g.byte)) s q (omega arith)) (other_no (is g.byte) (get_or s (whole_run_end g s q) 0) (rw z at w.1)))

-- ---- places that begin a run which passes a test: `R q j e` is of the run from q up to j, in a line that ends at e
abbrev pub passes : FenceIter → List ℕ → (ℕ → ℕ → ℕ → Bool) → ℕ → Bool
passes g s R q = begins g s q && R q (whole_run_end g s q) (run_line g s q)

-- a test that the last part of a run fails if the run does
abbrev pub PartsRuns : (ℕ → ℕ → ℕ → Bool) → Type 0
PartsRuns R = (a b j e : ℕ) → a ≤ b → R a j e ≡ false → R b j e ≡ false

module _ (g : FenceIter) (s : List ℕ) (R : ℕ → ℕ → ℕ → Bool) (parts : PartsRuns R) where
  passes_not : (k : ℕ) → begins g s k ≡ false → passes g s R k ≡ false
  passes_not k e = rw e

  -- after a run that fails no place up to its line's end passes
  passed : (q : ℕ) → holds (is g.byte) s q ≡ true → R q (whole_run_end g s q) (run_line g s q) ≡ false → (k : ℕ) → q ≤ k → k ≤ run_line g s q → passes g s R k ≡ false
  passed q here e k h l = by (decide (begins g s k))
    where
      by : (begins g s k ≡ true) ⊎ (begins g s k ≡ false) → passes g s R k ≡ false
      by (inl b) =
          let m = run_only g s q here k l b in
          rw (run_same g s q here k h (omega arith), parts q k (whole_run_end g s q) (run_line g s q) h e) (and-false (begins g s k))
      by (inr b) = passes_not k b

  -- where q is the first fence byte at or after `from`
  module _ (from q : ℕ) (hq : Sought (is g.byte) s from q) where
    before : (k : ℕ) → from ≤ k → k < q → passes g s R k ≡ false
    before k h l =
        passes_not k
        (begins_byte g s k
        (⊎_elim (λ (u : ltb k (length s) ≡ true). holds_in (is g.byte) s k (ltb-true k (length s) u) ∙ find_before (is g.byte) s from k h (omega (arith, hq.here))) (λ u. holds-past (is g.byte) s k (ltb-false k (length s) u)) (decide (ltb k (length s)))))

    pub first_gone : length s ≤ q → length s ≤ first_place (passes g s R) from (length s)
    first_gone l = by (decide (ltb from (length s)))
      where
        by : (ltb from (length s) ≡ true) ⊎ (ltb from (length s) ≡ false) → length s ≤ first_place (passes g s R) from (length s)
        by (inl u) =
            let h = ltb-true from (length s) u in
            omega (arith, first_none (passes g s R) from (length s) (omega arith) (λ k a b. before k a (omega arith)))
        by (inr u) = omega (arith, first_end (passes g s R) from (length s) (ltb-false from (length s) u), ltb-false from (length s) u)

    module _ (inside : q < length s) where
      pub byte_here : holds (is g.byte) s q ≡ true
      byte_here = holds_in (is g.byte) s q inside ∙ (rw (← hq.here) at (find_at (is g.byte) s from (omega (arith, hq.here))))

      after_in : (q < after_run_line g s q) × (after_run_line g s q ≤ length s)
      after_in = (omega (arith, run_some g s q byte_here, find_ge (is g.eol) s (whole_run_end g s q)), omega arith)

      pub first_skip : line_start g.eol s q ≡ false → first_place (passes g s R) from (length s) ≡ first_place (passes g s R) (q + 1) (length s)
      first_skip e = first-over (passes g s R) from (q + 1) (length s) (omega (arith, hq.low)) (omega arith) miss
        where
          miss : (k : ℕ) → from ≤ k → k < q + 1 → passes g s R k ≡ false
          miss k h l =
              ⊎_elim (λ (u : ltb k q ≡ true). before k h (ltb-true k q u))
              (λ u. let z : k ≡ q = omega (arith, ltb-false k q u) in passes_not k (rw z (begins_start g s q e))) (decide (ltb k q))

      pub first_miss : R q (whole_run_end g s q) (run_line g s q) ≡ false → first_place (passes g s R) from (length s) ≡ first_place (passes g s R) (after_run_line g s q) (length s)
      first_miss e = first-over (passes g s R) from (after_run_line g s q) (length s) (omega (arith, hq.low, after_in)) after_in.1 miss
        where
          miss : (k : ℕ) → from ≤ k → k < after_run_line g s q → passes g s R k ≡ false
          miss k h l =
              ⊎_elim (λ (u : ltb k q ≡ true). before k h (ltb-true k q u))
              (λ u. passed q byte_here e k (ltb-false k q u) (omega arith)) (decide (ltb k q))

      pub first_meet : line_start g.eol s q ≡ true → R q (whole_run_end g s q) (run_line g s q) ≡ true → first_place (passes g s R) from (length s) ≡ q
      first_meet b e =
          first-over (passes g s R) from q (length s) hq.low (omega arith) before
          ∙ first_here (passes g s R) q (length s) inside (rw (begins_yes g s q b byte_here, e))

-- ---- the two tests
-- a conjunction that fails wherever another does, since each of its halves does
and_fewer : (x x' y y' : Bool) → (x ≡ false → x' ≡ false) → (y ≡ false → y' ≡ false) → (x && y) ≡ false → (x' && y') ≡ false
and_fewer true x' y y' f h e = rw (h e) (and-false x')
and_fewer false x' y y' f h e = rw (f refl)

-- a run that is too short has no longer part
short-part : (least a b j : ℕ) → a ≤ b → leb least (run_count a j) ≡ false → leb least (run_count b j) ≡ false
short-part least a b j h e = lt-leb least (run_count b j) (omega (arith, leb-false least (run_count a j) e))

-- the test of a closing run
abbrev locks : FenceIter → ℕ → List ℕ → ℕ → ℕ → ℕ → Bool
locks g count s q j e = closes_run (either g.sep g.tab) count s q j e

locks-parts : (g : FenceIter) (count : ℕ) (s : List ℕ) → PartsRuns (locks g count s)
locks-parts g count s a b j e h =
    let y = leb e (find (other (either g.sep g.tab)) s j) in
    and_fewer (leb count (run_count a j)) (leb count (run_count b j)) y y (short-part count a b j h) (λ z. z)

-- the test of an opening run
abbrev pub unlocks : FenceIter → List ℕ → ℕ → ℕ → ℕ → Bool
unlocks g s p j e = opens_run g.byte g.min s p j e

pub unlocks-parts : (g : FenceIter) (s : List ℕ) → PartsRuns (unlocks g s)
unlocks-parts g s a b j e h =
    let x = leb g.min (run_count a j) in
    let x' = leb g.min (run_count b j) in
    let y = leb e (find (is g.byte) s j) in
    and_fewer (ltb a j) (ltb b j) (x && y) (x' && y) (λ z. le-ltb b j (omega (arith, ltb-false a j z))) (and_fewer x x' y y (short-part g.min a b j h) (λ z. z))

-- ---- where a fence is closed
module _ (g : FenceIter) (count : ℕ) (s : List ℕ) where
  -- it depends on the place of the closing line alone
  close_at : (q n : ℕ) → first_place (closes g count s) q (length s) ≡ first_place (closes g count s) n (length s) → close_end g count s q ≡ close_end g count s n
  unfolding close_end
  close_at q n e = ap (λ (p : ℕ). span_end g s (ltb p (length s)) p) e

  close_past : (q : ℕ) → length s ≤ first_place (closes g count s) q (length s) → length s ≡ close_end g count s q
  unfolding close_end
  close_past q h = rw (le-ltb (first_place (closes g count s) q (length s)) (length s) h)

  close_on : (q p : ℕ) → first_place (closes g count s) q (length s) ≡ p → p < length s → after_run_line g s p ≡ close_end g count s q
  unfolding close_end
  close_on q p e h = rw (e, lt-ltb p (length s) h)

  pub close_inside : (from : ℕ) → from ≤ length s → (from ≤ close_end g count s from) × (close_end g count s from ≤ length s)
  close_inside from h = by (decide (ltb (first_place (closes g count s) from (length s)) (length s)))
    where
      p : ℕ
      p = first_place (closes g count s) from (length s)

      by : (ltb p (length s) ≡ true) ⊎ (ltb p (length s) ≡ false) → (from ≤ close_end g count s from) × (close_end g count s from ≤ length s)
      by (inl u) =
          let l = ltb-true p (length s) u in
          let e : after_run_line g s p ≡ close_end g count s from = close_on from p refl l in
          let w = first_ge (closes g count s) from (length s) in
          let r = find_ge (other (is g.byte)) s p in
          let t = find_ge (is g.eol) s (whole_run_end g s p) in
          (omega arith, omega arith)
      by (inr u) = let e : length s ≡ close_end g count s from = close_past from (ltb-false p (length s) u) in (omega arith, omega arith)

  -- the ways out of a turn: q is the next fence byte
  module _ (from q : ℕ) (hq : Sought (is g.byte) s from q) where
    pub close_none : length s ≤ q → length s ≡ close_end g count s from
    unfolding closes
    close_none l = close_past from (first_gone g s (locks g count s) (locks-parts g count s) from q hq l)

    module _ (inside : q < length s) (y : Bool) (hy : Gives (line_start g.eol s q) y) where
      pub close_skip : y ≡ false → (from < q + 1) × (q + 1 ≤ length s) × (close_end g count s from ≡ close_end g count s (q + 1))
      unfolding closes
      close_skip e = (
        omega (arith, hq.low),
        omega arith,
        close_at from (q + 1) (first_skip g s (locks g count s) (locks-parts g count s) from q hq inside (sym hy.answer ∙ e)),
      )

      -- its run ends at j, its line at e, and n is the place after it
      module _ (start : y ≡ true) (j : ℕ) (hj : Sought (other (is g.byte)) s q j) (e : ℕ) (he : Sought (is g.eol) s j e) (n : ℕ) (hn : Gives (next_line (length s) e) n) (c : ℕ) (hc : Gives (run_count q j) c) where
        pub close_less : length s - n < length s - from
        close_less = omega (arith, hq.low, hj.low, he.low, hn.answer)

        close_miss : locks g count s q (whole_run_end g s q) (run_line g s q) ≡ false → (from < n) × (n ≤ length s) × (close_end g count s from ≡ close_end g count s n)
        unfolding closes
        close_miss f =
            let z : n ≡ after_run_line g s q = hn.answer ∙ ap (next_line (length s)) (he.here ∙ ap (line_end g.eol s) hj.here) in
            (omega (arith, hq.low, hj.low, he.low, hn.answer), omega (arith, hn.answer), rw z (close_at from (after_run_line g s q) (first_miss g s (locks g count s) (locks-parts g count s) from q hq inside f)))

        pub close_short : c < count → (from < n) × (n ≤ length s) × (close_end g count s from ≡ close_end g count s n)
        close_short l = close_miss (simp (← hj.here, ← hc.answer, lt-leb count c l))

        pub close_text : (z : Bool) → z ≡ false → Gives (leb e (find (other (either g.sep g.tab)) s j)) z → (from < n) × (n ≤ length s) × (close_end g count s from ≡ close_end g count s n)
        close_text z k hz = close_miss (simp (← hj.here, ← he.here, ← hz.answer, k, and-false))

        pub close_found : count ≤ c → (z : Bool) → z ≡ true → Gives (leb e (find (other (either g.sep g.tab)) s j)) z → n ≡ close_end g count s from
        unfolding closes
        close_found l z k hz =
            hn.answer
            ∙ ap (next_line (length s)) (he.here ∙ ap (line_end g.eol s) hj.here)
            ∙ close_on from q (first_meet g s (locks g count s) (locks-parts g count s) from q hq inside (sym hy.answer ∙ start) (simp (← hj.here, ← hc.answer, le-leb count c l, ← he.here, ← hz.answer, k))) inside

-- the loop: from the place that it has come to, the search has the same answer
pub record FenceCloses (g : FenceIter) (count : ℕ) (s : List ℕ) (from q : ℕ) : Type 0 where
  pub same : close_end g count s from ≡ close_end g count s q

pub closes-first : (g : FenceIter) (count : ℕ) (s : List ℕ) (q : ℕ) → FenceCloses g count s q q
closes-first g count s q = record { same = refl }

module _ (g : FenceIter) (count : ℕ) (s : List ℕ) (from q' q : ℕ) (w : FenceCloses g count s from q') (hq : Sought (is g.byte) s q' q) where
  pub closes_none : length s ≤ q → length s ≡ close_end g count s from
  closes_none l = close_none g count s q' q hq l ∙ sym w.same

  module _ (inside : q < length s) (y : Bool) (hy : Gives (line_start g.eol s q) y) where
    pub closes_skip : y ≡ false → FenceCloses g count s from (q + 1)
    closes_skip e = record { same = w.same ∙ (close_skip g count s q' q hq inside y hy e).2 }

    module _ (start : y ≡ true) (j : ℕ) (hj : Sought (other (is g.byte)) s q j) (e : ℕ) (he : Sought (is g.eol) s j e) (n : ℕ) (hn : Gives (next_line (length s) e) n) (c : ℕ) (hc : Gives (run_count q j) c) where
      pub closes_short : c < count → FenceCloses g count s from n
      closes_short l = record { same = w.same ∙ (close_short g count s q' q hq inside y hy start j hj e he n hn c hc l).2 }

      module _ (z : Bool) (hz : Gives (leb e (find (other (either g.sep g.tab)) s j)) z) where
        pub closes_text : z ≡ false → FenceCloses g count s from n
        closes_text k = record { same = w.same ∙ (close_text g count s q' q hq inside y hy start j hj e he n hn c hc z k hz).2 }

        pub closes_found : count ≤ c → z ≡ true → n ≡ close_end g count s from
        closes_found l k = close_found g count s q' q hq inside y hy start j hj e he n hn c hc l z k hz ∙ sym w.same

pub ruleset close_rules = (closes-first, closes_none, closes_skip, closes_short, closes_text, closes_found, close_less)

-- ---- a further fence byte on the line: one search for it or the line end, which ends at e, tells whether it comes first
module _ (b eol : ℕ) (s : List ℕ) (j e m : ℕ) (he : Sought (is eol) s j e) (hm : Sought (either b eol) s j m) where
  near : m < e → find (is b) s j < e
  near l =
      let h : m < length s = omega (arith, he.high, hm.low) in
      ⊎_elim (λ (x : get_or s m 0 ≡ b). omega (arith, find_hit (is b) s j m hm.low h (is_yes b (get_or s m 0) x)))
      (λ x. absurd (clash (is_yes eol (get_or s m 0) x) (find_before (is eol) s j m hm.low (omega (arith, he.here)))))
      (either_true b eol (get_or s m 0) (rw (← hm.here) at (find_at (either b eol) s j (omega (arith, hm.here)))))

  far : e ≤ m → e ≤ find (is b) s j
  far l =
      ⊎_elim
      (λ (u : ltb j (length s) ≡ true).
      let h = ltb-true j (length s) u in
      omega
      (arith, find_ge (is b) s e, find-over (is b) s j e he.low (omega (arith, he.high)) (λ k a c. (either_false b eol (get_or s k 0) (find_before (either b eol) s j k a (omega (arith, hm.here)))).0)))
      (λ u. omega (arith, ltb-false j (length s) u, find_ge (is b) s j, he.high)) (decide (ltb j (length s)))

-- ---- where a fence opens: a run of the fence byte begins at p, ends at j and is c long, its line ends at e, and n is the place after that
module _ (g : FenceIter) (s : List ℕ) (p : ℕ) (j : ℕ) (hj : Sought (other (is g.byte)) s p j) (e : ℕ) (he : Sought (is g.eol) s j e) (n : ℕ) (hn : Gives (next_line (length s) e) n) (c : ℕ) (hc : Gives (run_count p j) c) where
  pub open_short : c < g.min → go n ≡ open_line g s p
  open_short l = simp (← hj.here, ← hc.answer, lt-leb g.min c l, and-false, ← he.here, ← hn.answer)

  pub open_more : (m : ℕ) → Sought (either g.byte g.eol) s j m → m < e → go n ≡ open_line g s p
  open_more m hm l = simp (← hj.here, ← he.here, lt-leb e (find (is g.byte) s j) (near g.byte g.eol s j e m he hm l), and-false, ← hn.answer)

  pub open_found : (m r : ℕ) → holds (is g.byte) s p ≡ true → g.min ≤ c → Sought (either g.byte g.eol) s j m → e ≤ m → Gives (close_end g c s n) r → found (record { start = p; end = r }) r ≡ open_line g s p
  open_found m r here l hm k hr =
      let w : p < j = omega (arith, run_some g s p here, hj.here) in
      simp (← hj.here, lt-ltb p j w, ← hc.answer, le-leb g.min c l, ← he.here, le-leb e (find (is g.byte) s j) (far g.byte g.eol s j e m he hm k), ← hn.answer, ← hr.answer)

pub ruleset open_line_rules = (open_short, open_more, open_found)

-- a fence's bounds are 32-bit numbers
module _ (g : FenceIter) (s : List ℕ) (fits : length s ≤ 4294967295) where
  pub start_fits : (p : ℕ) → holds (is g.byte) s p ≡ true → p < 4294967296
  start_fits p here = let w = holds_true (is g.byte) s p here in omega arith

  pub end_fits : (e n count r : ℕ) → Gives (next_line (length s) e) n → Gives (close_end g count s n) r → r < 4294967296
  end_fits e n count r hn hr = omega (arith, hr.answer, close_inside g count s n (omega (arith, hn.answer)))

-- one turn: p is the next fence byte at or after q
module _ (g : FenceIter) (s : List ℕ) (q p : ℕ) (hp : Sought (is g.byte) s q p) where
  pub turn_stop : length s ≤ p → stop q ≡ open_turn g s q
  unfolding open_turn
  turn_stop l = simp (← hp.here, le-ltb p (length s) l)

  module _ (inside : p < length s) where
    pub turn_byte : holds (is g.byte) s p ≡ true
    turn_byte = byte_here g s (unlocks g s) (unlocks-parts g s) q p hp inside

    module _ (y : Bool) (hy : Gives (line_start g.eol s p) y) where
      pub turn_skip : y ≡ false → go (p + 1) ≡ open_turn g s q
      unfolding open_turn
      turn_skip e = simp (← hp.here, lt-ltb p (length s) inside, ← hy.answer, e)

      pub turn-line : y ≡ true → (t : Turn Fence) → Gives (open_line g s p) t → t ≡ open_turn g s q
      unfolding open_turn
      turn-line e t h = h.answer ∙ simp (← hp.here, lt-ltb p (length s) inside, ← hy.answer, e)

pub ruleset turn_rules = (turn_stop, turn_skip, turn-line)

-- ---- the turns move on within the text
abbrev pub Lies : ℕ → ℕ → Fence → Type 0
Lies q n f = (q ≤ f.start) × (f.start < f.end) × (f.end ≤ n)

pub lies_start : (q n : ℕ) (f : Fence) → Lies q n f → f.start ≤ n
lies_start q n f l = omega arith

pub lies_end : (q n : ℕ) (f : Fence) → Lies q n f → f.end ≤ n
lies_end q n f l = omega arith

-- a fence that opens at p
pub fence_lies : (g : FenceIter) (s : List ℕ) (p : ℕ) → holds (is g.byte) s p ≡ true → (p < after_run_line g s p) × (p < (fence_at g s p).end) × ((fence_at g s p).end ≤ length s)
fence_lies g s p here =
    let w = holds_true (is g.byte) s p here in
    let m : p < after_run_line g s p = omega (arith, run_some g s p here, find_ge (is g.eol) s (whole_run_end g s p)) in
    let c = close_inside g (run_count p (whole_run_end g s p)) s (after_run_line g s p) (omega arith) in
    (m, omega arith, omega arith)

pub turn_adv : (g : FenceIter) (s : List ℕ) → Adv Lies (open_turn g s) (length s)
unfolding open_turn
turn_adv g s = record { ahead = λ q h. by q h (find (is g.byte) s q) (sought (is g.byte) s q (find (is g.byte) s q) refl) (ltb (find (is g.byte) s q) (length s)) refl }
  where
    line : (q p : ℕ) → q ≤ p → holds (is g.byte) s p ≡ true → (y : Bool) → Ahead Lies q (length s) (cond y (found (fence_at g s p) (fence_at g s p).end) (go (after_run_line g s p)))
    line q p h here true = let w = fence_lies g s p here in (omega arith, omega arith, (omega arith, omega arith, omega arith))
    line q p h here false = let w = fence_lies g s p here in (omega arith, omega arith)

    start : (q p : ℕ) → q ≤ p → holds (is g.byte) s p ≡ true → (y : Bool) → Ahead Lies q (length s) (cond y (open_line g s p) (go (p + 1)))
    start q p h here true = line q p h here (unlocks g s p (whole_run_end g s p) (run_line g s p))
    start q p h here false = let w = holds_true (is g.byte) s p here in (omega arith, omega arith)

    by : (q : ℕ) → q ≤ length s → (p : ℕ) → Sought (is g.byte) s q p → (x : Bool) → ltb p (length s) ≡ x → Ahead Lies q (length s) (cond x (cond (line_start g.eol s p) (open_line g s p) (go (p + 1))) (stop q))
    by q h p hp true e = start q p hp.low (turn_byte g s q p hp (ltb-true p (length s) e)) (line_start g.eol s p)
    by q h p hp false e = (omega arith, h)

-- ---- the step
module _ (g : FenceIter) (s : List ℕ) where
  pub next_long : 4294967295 < length s → Steps (answer g s) (state g s) (refused 1) g
  unfolding answer state
  next_long = step_long span_values at g s g.pos (first_open g s)

  module _ (fits : length s ≤ 4294967295) where
    pub next-outside : length s < g.pos → Steps (answer g s) (state g s) (refused 2) g
    unfolding answer state
    next-outside l = step_past span_values at g s g.pos (first_open g s) l fits

    -- f and v are what the code's scan came to, h is the state that comes back
    pub next-told : g.pos ≤ length s → (f : Option Fence) (v : ℕ) (h : FenceIter) → Gives (first_turn (open_turn g s) (length s) g.pos) (rests f v) → Gives (at g v) h → Steps (answer g s) (state g s) (told_span (Ok f)) h
    unfolding answer state first_open
    next-told inside (Some f) v h w = step_seen span_values at g s g.pos (first_open g s) inside fits (λ t. t) (found f v) (found f v) (given (span_values f)) h refl w refl
    next-told inside None v h w = step_seen span_values at g s g.pos (first_open g s) inside fits (λ t. t) (stop v) (stop v) (given []) h refl w refl

-- ---- two results of a step that keep its promise are one
pub next_unique : (g : FenceIter) (s : List ℕ) (r r' : FenceStep) → Kept g s r → Kept g s r' → (r.found ≡ r'.found) × (r.next ≡ r'.next)
next_unique g s r r' w w' = (span_unique {o = answer g s} (record { answer = w.answer }) (record { answer = w'.answer }), (steps_unique w w').1)
