-- Laws of what lines say of fences: the ways out of the functions that ask. Assumes nothing.
use Rattle.std.specs.Prelude.{◌≡◌, refl, Bool, true, cond, ◌&&◌, List, ◌⊎◌, leb, None, Option, Some, is_some}
use Rattle.std.proofs.Common.{sym, ap, ◌∙◌, inl, inr}
use Rattle.std.proofs.Math.Bool.{false, and-false}
use Rattle.std.proofs.Math.Logic.{⊎_elim}
use Prim.Native.Nat.{ℕ, ◌+◌, ◌-◌, ◌≤◌, ◌<◌, min}
use native.Mathlib.Omega.{arith}
use Rattle.std.proofs.Math.Dec.{ltb}
use Rattle.std.proofs.Math.ListN.{length, get_or}
use borrow.Author.Tests.{lt-ltb, le-ltb, ltb-true, ltb-false, le-leb, lt-leb}
use Rattle.search.specs.Promise.{Gives}
use Rattle.search.specs.Search.{is, either, other, holds, first_place, find, Sought, line_start, line_end, next_line}
use Rattle.search.specs.SearchLaws.{decide, is_yes, is_no, is_true, is_false, either_true, either_false, other_yes, other_false, holds_in, holds-past, holds_true, first_none, first_end, first-over, first_here, find_ge, find_end, find_before, find_at, find-is, find-over, find_hit, line_one}
use Rattle.common.specs.Rules.{entry}
use Rattle.lines.specs.Fences.{has_in, least_in, run_count, opens_to, opening_of, opens_line, opening, closes_to, closing}
use Rattle.lines.specs.Reader.{reader, shuts, reader_in, opening_at, close_scan}
use Rattle.common.specs.declared.grammar.Grammar.{Grammar}

-- ---- a line that closes: its run ends at j, within the line, and is c long
module _ (g : Grammar) (b count : ℕ) (s : List ℕ) (q e j c : ℕ) (hj : Gives (min (find (other (is b)) s q) e) j) (hc : Gives (run_count q j) c) where
  pub closes-short : c < count → false ≡ closes_to g b count s q e
  unfolding closes_to
  closes-short l = simp (← hj.answer, ← hc.answer, lt-leb count c l)

  -- so the test that failed is the answer
  pub closes-failed : c < count → leb count c ≡ closes_to g b count s q e
  closes-failed l = lt-leb count c l ∙ closes-short l

  pub closes-rest : (y : Bool) → count ≤ c → Gives (leb e (find (other (either g.sep g.tab)) s j)) y → y ≡ closes_to g b count s q e
  unfolding closes_to
  closes-rest y l hy = simp (← hj.answer, ← hc.answer, le-leb count c l, ← hy.answer)

-- ---- a line that opens: at p begins a run of b that ends at i and is c long
module _ (eol b least : ℕ) (s : List ℕ) (p : ℕ) where
  no_run : min (find (other (is b)) s p) (line_end eol s p) ≤ p → None ≡ opening_of eol b least s p
  unfolding opening_of
  no_run h = rw (le-ltb p (min (find (other (is b)) s p) (line_end eol s p)) h)

  pub opens_eol : b ≡ eol → None ≡ opening_of eol b least s p
  opens_eol e = no_run (by (decide (ltb p (length s))) (decide (is b (get_or s p 0))))
    where
      by : (ltb p (length s) ≡ true) ⊎ (ltb p (length s) ≡ false) → (is b (get_or s p 0) ≡ true) ⊎ (is b (get_or s p 0) ≡ false) → min (find (other (is b)) s p) (line_end eol s p) ≤ p
      by (inl u) (inl v) = omega (arith, find_hit (is eol) s p p (omega arith) (ltb-true p (length s) u) (is_yes eol (get_or s p 0) (is_true b (get_or s p 0) v ∙ e)))
      by (inl u) (inr v) = omega (arith, find_hit (other (is b)) s p p (omega arith) (ltb-true p (length s) u) (other_yes (is b) (get_or s p 0) v))
      by (inr u) v = omega (arith, find_end (is eol) s p (ltb-false p (length s) u))

  module _ (apart : b ≡ eol → ⊥) (i : ℕ) (hi : Sought (other (is b)) s p i) where
    pub opens_none : i ≤ p → None ≡ opening_of eol b least s p
    opens_none l = no_run (omega (arith, hi.here))

    module _ (some : p < i) (c : ℕ) (hc : Gives (run_count p i) c) where
      run_in : i ≤ length s
      run_in = omega (arith, hi.high)

      -- all of the run is b, so that the line ends after it, and the run within the line is the whole run
      run_all : (j : ℕ) → p ≤ j → j < i → is eol (get_or s j 0) ≡ false
      run_all j h l =
          let w : get_or s j 0 ≡ b = is_true b (get_or s j 0) (other_false (is b) (get_or s j 0) (find_before (other (is b)) s p j h (omega (arith, hi.here)))) in
          is_no eol (get_or s j 0) (λ z. apart (sym w ∙ z))

      line_same : line_end eol s p ≡ line_end eol s i
      line_same = find-over (is eol) s p i hi.low run_in run_all

      ends : min i (line_end eol s i) ≡ i
      ends = omega (arith, find_ge (is eol) s i)

      pub opens-short : c < least → None ≡ opening_of eol b least s p
      unfolding opening_of
      opens-short l = simp (← hi.here, line_same, ends, ← hc.answer, lt-leb least c l, and-false)

      module _ (enough : least ≤ c) (e : ℕ) (he : Sought (either b eol) s i e) (y : Bool) (hy : Gives (holds (is b) s e) y) where
        -- what the one search passed is neither
        passed : (j : ℕ) → i ≤ j → j < e → (is b (get_or s j 0) ≡ false) × (is eol (get_or s j 0) ≡ false)
        passed j h l = either_false b eol (get_or s j 0) (find_before (either b eol) s i j h (omega (arith, he.here)))

        -- another fence byte comes before the line's end
        pub opens-more : y ≡ true → None ≡ opening_of eol b least s p
        unfolding opening_of
        opens-more u =
            let w = holds_true (is b) s e (sym hy.answer ∙ u) in
            let hit : find (is b) s i ≤ e = find_hit (is b) s i e he.low w.0 w.1 in
            let after : e < line_end eol s i = omega (arith, find-over (is eol) s i (e + 1) (omega (arith, he.low)) (omega arith) (miss (is_true b (get_or s e 0) w.1)), find_ge (is eol) s (e + 1)) in
            simp (← hi.here, line_same, ends, ← hc.answer, lt-leb (line_end eol s i) (find (is b) s i) (omega arith), and-false)
          where
            miss : get_or s e 0 ≡ b → (j : ℕ) → i ≤ j → j < e + 1 → is eol (get_or s j 0) ≡ false
            miss f j h m =
                ⊎_elim (λ (u : ltb j e ≡ true). (passed j h (ltb-true j e u)).1)
                (λ u. let z : j ≡ e = omega (arith, ltb-false j e u) in rw z (is_no eol (get_or s e 0) (λ x. apart (sym f ∙ x)))) (decide (ltb j e))

        -- the search ends where the line does
        whole : y ≡ false → line_end eol s i ≡ e
        whole u = by (decide (ltb e (length s)))
          where
            by : (ltb e (length s) ≡ true) ⊎ (ltb e (length s) ≡ false) → line_end eol s i ≡ e
            by (inl v) =
                let l = ltb-true e (length s) v in
                find-is (is eol) s i e he.low l (λ j h m. (passed j h m).1)
                (⊎_elim (λ (x : get_or s e 0 ≡ b). absurd (is_false b (get_or s e 0) (sym (holds_in (is b) s e l) ∙ (sym hy.answer ∙ u)) x)) (λ x. is_yes eol (get_or s e 0) x)
                (either_true b eol (get_or s e 0) (rw (← he.here) at (find_at (either b eol) s i (omega (arith, he.here))))))
            by (inr v) =
                let l = ltb-false e (length s) v in
                let z : e ≡ length s = omega (arith, he.high, run_in) in
                find-over (is eol) s i e he.low (omega arith) (λ j h m. (passed j h m).1) ∙ find_end (is eol) s e l

        pub opens_yes : y ≡ false → Some (c, e) ≡ opening_of eol b least s p
        unfolding opening_of
        opens_yes u =
            let a : e ≤ find (is b) s i = omega (arith, find-over (is b) s i e he.low (omega (arith, he.high, run_in)) (λ j h l. (passed j h l).0), find_ge (is b) s e) in
            let short : min i e ≡ i = omega (arith, he.low) in
            simp (← hi.here, line_same, whole u, short, ← hc.answer, lt-ltb p i some, le-leb least c enough, le-leb e (find (is b) s i) a)

pub ruleset open_rules = (opens_eol, opens_none, opens-short, opens-more, opens_yes)

-- by the table: f is what it says of the byte b at p
module _ (eol : ℕ) (fences s : List ℕ) (p b f : ℕ) (hb : Gives (get_or s p 0) b) (hf : Gives (entry 0 fences b) f) where
  pub opens_rule : (n : ℕ) (d : Option (ℕ × ℕ)) → 1 ≤ f → n ≡ f - 1 → Gives (opening_of eol b n s p) d → d ≡ opening eol (has_in fences) (least_in fences) s p
  unfolding opening has_in least_in
  opens_rule n d some e hd = hd.answer ∙ simp (e, ← hb.answer, ← hf.answer, lt-ltb 0 f (omega (arith, some)))

  pub opens_unruled : (1 ≤ f → ⊥) → None ≡ opening eol (has_in fences) (least_in fences) s p
  unfolding opening has_in
  opens_unruled h = let e : f ≡ 0 = omega (arith, h) in simp (← hb.answer, ← hf.answer, e)

-- a line opens with its whole run, up to its line's end
abbrev pub whole_run : (eol : ℕ) (s : List ℕ) (p : ℕ) → Option (ℕ × ℕ)
whole_run eol s p = Some (run_count p (min (find (other (is (get_or s p 0))) s p) (line_end eol s p)), line_end eol s p)

pub opening-is : (eol : ℕ) (has : ℕ → Bool) (least : ℕ → ℕ) (s : List ℕ) (p : ℕ)
    → opening eol has least s p ≡ cond (opens_line eol has least s p) (whole_run eol s p) None
unfolding opening opening_of opens_line
opening-is eol has least s p = by (has (get_or s p 0))
  where
    by : (y : Bool) → cond y (cond (opens_to (get_or s p 0) (least (get_or s p 0)) s p (line_end eol s p)) (whole_run eol s p) None) None
        ≡ cond (y && opens_to (get_or s p 0) (least (get_or s p 0)) s p (line_end eol s p)) (whole_run eol s p) None
    by true = refl
    by false = refl

-- ---- the same, asked of the reader
pub enters_told : (g : Grammar) (fences s : List ℕ) (p : ℕ) (d : Option (ℕ × ℕ)) → Gives (opening g.eol (has_in fences) (least_in fences) s p) d → is_some d ≡ (reader_in g fences).enters s p
unfolding reader
enters_told g fences s p d says =
    ap is_some (says.answer ∙ opening-is g.eol (has_in fences) (least_in fences) s p) ∙ by (opens_line g.eol (has_in fences) (least_in fences) s p)
  where
    by : (y : Bool) → is_some (cond y (whole_run g.eol s p) None) ≡ y
    by true = refl
    by false = refl

module _ (g : Grammar) (fences s : List ℕ) (p : ℕ) (y : Bool) where
  pub at_start : (d : Option (ℕ × ℕ)) → y ≡ true → Gives (line_start g.eol s p) y → Gives (opening g.eol (has_in fences) (least_in fences) s p) d → d ≡ opening_at (reader_in g fences) g.eol s p
  unfolding opening_at reader
  at_start d u h w = w.answer ∙ opening-is g.eol (has_in fences) (least_in fences) s p ∙ simp (← h.answer, u)

  pub at_none : y ≡ false → Gives (line_start g.eol s p) y → None ≡ opening_at (reader_in g fences) g.eol s p
  unfolding opening_at reader
  at_none u h = simp (← h.answer, u)

-- what closes a fence is the reader's, whatever the rules are
pub reader-shuts : (g : Grammar) (has : ℕ → Bool) (least : ℕ → ℕ) (b count : ℕ) (s : List ℕ) → shuts g b count s ≡ (reader g has least).shuts b count s
unfolding reader
reader-shuts g has least b count s = refl

-- ---- the search for a close
module _ (g : Grammar) (b count : ℕ) (s : List ℕ) where
  closing_start : (q : ℕ) → line_start g.eol s q ≡ false → shuts g b count s q ≡ false
  unfolding shuts closing
  closing_start q e = rw e

  closing_byte : (q : ℕ) → holds (is b) s q ≡ false → shuts g b count s q ≡ false
  unfolding shuts closing
  closing_byte q e = rw e (and-false (line_start g.eol s q))

  closing-line : (q : ℕ) → closes_to g b count s q (line_end g.eol s q) ≡ false → shuts g b count s q ≡ false
  unfolding shuts closing
  closing-line q e = simp (e, and-false)

  closing_yes : (q : ℕ) → line_start g.eol s q ≡ true → holds (is b) s q ≡ true → closes_to g b count s q (line_end g.eol s q) ≡ true → shuts g b count s q ≡ true
  unfolding shuts closing
  closing_yes q e f h = simp (e, f, h)

  module _ (from q : ℕ) (hq : Sought (is b) s from q) where
    -- no closing line begins before the next fence byte
    before : (j : ℕ) → from ≤ j → j < q → shuts g b count s j ≡ false
    before j h l =
        closing_byte j
        (⊎_elim (λ (u : ltb j (length s) ≡ true). holds_in (is b) s j (ltb-true j (length s) u) ∙ find_before (is b) s from j h (omega (arith, hq.here))) (λ u. holds-past (is b) s j (ltb-false j (length s) u)) (decide (ltb j (length s))))

    pub close_none : length s ≤ q → length s ≤ first_place (shuts g b count s) from (length s)
    close_none l = by (decide (ltb from (length s)))
      where
        by : (ltb from (length s) ≡ true) ⊎ (ltb from (length s) ≡ false) → length s ≤ first_place (shuts g b count s) from (length s)
        by (inl u) =
            let h = ltb-true from (length s) u in
            omega (arith, first_none (shuts g b count s) from (length s) (omega arith) (λ j a d. before j a (omega arith)))
        by (inr u) = omega (arith, first_end (shuts g b count s) from (length s) (ltb-false from (length s) u), ltb-false from (length s) u)

    module _ (inside : q < length s) (y : Bool) (hy : Gives (line_start g.eol s q) y) where
      at_b : holds (is b) s q ≡ true
      at_b = holds_in (is b) s q inside ∙ (rw (← hq.here) at (find_at (is b) s from (omega (arith, hq.here))))

      pub close_skip : y ≡ false → (from < q + 1) × (q + 1 ≤ length s) × (first_place (shuts g b count s) from (length s) ≡ first_place (shuts g b count s) (q + 1) (length s))
      close_skip e = (
        omega (arith, hq.low),
        omega arith,
        first-over (shuts g b count s) from (q + 1) (length s) (omega (arith, hq.low)) (omega arith) miss,
      )
        where
          miss : (j : ℕ) → from ≤ j → j < q + 1 → shuts g b count s j ≡ false
          miss j h l =
              ⊎_elim (λ (u : ltb j q ≡ true). before j h (ltb-true j q u))
              (λ u. let z : j ≡ q = omega (arith, ltb-false j q u) in rw z (closing_start q (sym hy.answer ∙ e))) (decide (ltb j q))

      module _ (start : y ≡ true) (e : ℕ) (he : Sought (is g.eol) s q e) (x : Bool) (hx : Gives (closes_to g b count s q e) x) where
        pub close_hit : x ≡ true → (first_place (shuts g b count s) from (length s) ≡ q) × (q < length s) × (e ≡ line_end g.eol s q)
        close_hit c = (
          first-over (shuts g b count s) from q (length s) hq.low (omega arith) before
              ∙ first_here (shuts g b count s) q (length s) inside (closing_yes q (sym hy.answer ∙ start) at_b (rw he.here at (sym hx.answer ∙ c))),
          inside,
          he.here,
        )

        pub close_less : (n : ℕ) → Gives (next_line (length s) e) n → length s - n < length s - from
        close_less n hn = omega (arith, hq.low, he.low, hn.answer)

        pub close_miss : (n : ℕ) → x ≡ false → Gives (next_line (length s) e) n → (from < n) × (n ≤ length s) × (first_place (shuts g b count s) from (length s) ≡ first_place (shuts g b count s) n (length s))
        close_miss n c hn =
            let h : from < n = omega (arith, hq.low, he.low, hn.answer) in
            let l : n ≤ length s = omega (arith, hn.answer) in
            (h, l, first-over (shuts g b count s) from n (length s) (omega arith) l miss)
          where
            miss : (j : ℕ) → from ≤ j → j < n → shuts g b count s j ≡ false
            miss j h l = by (decide (ltb j q)) (decide (ltb q j))
              where
                by : (ltb j q ≡ true) ⊎ (ltb j q ≡ false) → (ltb q j ≡ true) ⊎ (ltb q j ≡ false) → shuts g b count s j ≡ false
                by (inl u) v = before j h (ltb-true j q u)
                by (inr u) (inl v) =
                    closing_start j (line_one g.eol s q j (ltb-true q j v) (omega (arith, he.here, hn.answer)))
                by (inr u) (inr v) =
                    let z : j ≡ q = omega (arith, ltb-false j q u, ltb-false q j v) in
                    rw z (closing-line q (rw he.here at (sym hx.answer ∙ c)))

-- the loop: from the place that it has come to, the search has the same answer
pub record Closes (t : ℕ → Bool) (len from q : ℕ) : Type 0 where
  pub same : first_place t from len ≡ first_place t q len

pub closes-first : (t : ℕ → Bool) (len q : ℕ) → Closes t len q q
closes-first t len q = record { same = refl }

module _ (g : Grammar) (b count : ℕ) (s : List ℕ) (from j q : ℕ) (w : Closes (shuts g b count s) (length s) from j) (hq : Sought (is b) s j q) where
  pub closes_not : length s ≤ q → None ≡ close_scan g b count s from
  unfolding close_scan
  closes_not l = simp (w.same, le-ltb (first_place (shuts g b count s) j (length s)) (length s) (close_none g b count s j q hq l))

  module _ (inside : q < length s) (y : Bool) (hy : Gives (line_start g.eol s q) y) where
    pub closes_skip : y ≡ false → Closes (shuts g b count s) (length s) from (q + 1)
    closes_skip e = record { same = w.same ∙ (close_skip g b count s j q hq inside y hy e).2 }

    module _ (start : y ≡ true) (e : ℕ) (he : Sought (is g.eol) s q e) (x : Bool) (hx : Gives (closes_to g b count s q e) x) where
      pub closes_found : x ≡ true → Some (q, e) ≡ close_scan g b count s from
      unfolding close_scan
      closes_found c = let v = close_hit g b count s j q hq inside y hy start e he x hx c in simp (w.same, v.0, lt-ltb q (length s) v.1, v.2)

      pub closes_again : (n : ℕ) → x ≡ false → Gives (next_line (length s) e) n → Closes (shuts g b count s) (length s) from n
      closes_again n c hn = record { same = w.same ∙ (close_miss g b count s j q hq inside y hy start e he x hx n c hn).2 }

pub ruleset close_rules = (closes-first, closes_not, closes_skip, closes_found, closes_again, close_less)
