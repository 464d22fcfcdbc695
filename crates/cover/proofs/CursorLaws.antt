-- Laws of the cursor: its loop, the ways out of a query, and that on a list in order it is plain coverage. Assumes nothing.
use Rattle.std.specs.Prelude.{◌≡◌, true, false, cond, ◌&&◌, ◌⊎◌, ltb, leb, length, get_or, drop, Option, Result}
use Rattle.std.proofs.Math.Path.{refl, sym, ap}
use Rattle.std.proofs.Common.{◌∙◌, inl, inr, arith, drop_of_length-le, drop-cons}
use Rattle.std.proofs.Math.Bool.{and-false}
use mathlib.Core.List.{List, [], ◌∷◌, map}
use Prim.Native.Nat.{ℕ, zero, suc, ◌+◌, ◌*◌, ◌/◌, ◌≤◌, ◌<◌, max}
use borrow.Author.Tests.{lt-ltb, le-ltb, ltb-true, ltb-false, le-leb, lt-leb, leb-true, leb-false}
use Rattle.search.specs.Promise.{Gives, Steps}
use Rattle.search.specs.Search.{first_place}
use Rattle.search.specs.SearchLaws.{decide, first_le, first_here, first_next, first_end, first_before, first-at}
use Rattle.common.specs.Refusals.{Outcome, given, refused, told_found}
use Rattle.common.specs.RefusalLaws.{found_unique}
use Rattle.common.specs.Entry.{rows, room, wide, start_of, stop_of, Shaped}
use Rattle.common.specs.EntryLaws.{rows_at, length-rows}
use Rattle.cover.specs.Cursor.{start_at, stop_at, ends_after, passed, end_at, cover_answer, cover_next, covers, coverage, cover_run, CoveredBoth, Rising, Ended}
use Rattle.cover.specs.declared.cursor.Cover.{Cover}
use Rattle.cover.specs.declared.cursor.CoverPair.{CoverPair}
use Rattle.common.specs.declared.refusal.Refusal.{Refusal}

-- ---- the loop that skips regions, at index i
pub record Passes (w : ℕ) (l : List ℕ) (count index place i : ℕ) : Type 0 where
  pub same : passed w l count index place ≡ passed w l count i place

module _ (w : ℕ) (l : List ℕ) (count index place : ℕ) where
  pub passes-first : Passes w l count index place index
  passes-first = record { same = refl }

  module _ (i : ℕ) (k : Passes w l count index place i) where
    pub passes_again : (stop : ℕ) → i < count → Gives (stop_at w l i) stop → stop ≤ place → Passes w l count index place (i + 1)
    unfolding passed
    passes_again stop h g m = record { same = k.same ∙ first_next (ends_after w l place) i count h (le-ltb place (stop_at w l i) (omega (arith, g.answer))) }

    pub passes_found : (stop : ℕ) → i < count → Gives (stop_at w l i) stop → place < stop → i ≡ passed w l count index place
    unfolding passed
    passes_found stop h g m = sym (k.same ∙ first_here (ends_after w l place) i count h (lt-ltb place (stop_at w l i) (omega (arith, g.answer))))

    pub passes_end : count ≤ i → i ≡ passed w l count index place
    unfolding passed
    passes_end h = sym (k.same ∙ first_end (ends_after w l place) i count h)

    pub passes_last : (r : ℕ) → count ≤ i → (index ≤ count → i ≤ count) → r ≡ max index count → r ≡ passed w l count index place
    unfolding passed
    passes_last r h m e = by (decide (leb count index))
      where
        by : (leb count index ≡ true) ⊎ (leb count index ≡ false) → r ≡ first_place (ends_after w l place) index count
        by (inl u) = let k = leb-true count index u in let z : r ≡ index = omega arith in z ∙ sym (first_end (ends_after w l place) index count k)
        by (inr u) = let k = leb-false count index u in let z : r ≡ i = omega (arith, m (omega arith)) in z ∙ passes_end h

pub ruleset pass_rules = (passes-first, passes_again, passes_found, passes_last)

-- ---- the ways out of a query of a list that has `all` numbers
module _ (w : ℕ) (l : List ℕ) (count index place all : ℕ) (a : Gives (length l) all) where
  pub cover_refused : all / w < count → Steps (cover_answer w l count index place) (cover_next w l count index place) (refused 5) index
  unfolding cover_answer cover_next
  cover_refused h =
      let k : room w l < count = rw (← a.answer) h in
      record { answer = simp (lt-ltb (room w l) count k); next = simp (lt-ltb (room w l) count k) }

  module _ (f : count ≤ all / w) (i : ℕ) (g : Gives (passed w l count index place) i) where
    fits : count ≤ room w l
    fits = rw (← a.answer) f

    answered : (found : List ℕ) → found ≡ end_at w l count i place → Steps (cover_answer w l count index place) (cover_next w l count index place) (given found) i
    unfolding cover_answer cover_next
    answered found e = record { answer = simp (le-ltb (room w l) count fits, ← g.answer, e); next = simp (le-ltb (room w l) count fits, ← g.answer) }

    pub cover_past : count ≤ i → Steps (cover_answer w l count index place) (cover_next w l count index place) (given []) i
    unfolding end_at
    cover_past h = answered [] (rw (le-ltb i count h))

    pub cover_before : (start : ℕ) → place < start → Gives (start_at w l i) start → i < count → Steps (cover_answer w l count index place) (cover_next w l count index place) (given []) i
    unfolding end_at
    cover_before start m s h = answered [] (rw (lt-ltb i count h, lt-leb (start_at w l i) place (omega (arith, s.answer))))

    pub cover_found : (start stop : ℕ) → start ≤ place → Gives (start_at w l i) start → Gives (stop_at w l i) stop → i < count → Steps (cover_answer w l count index place) (cover_next w l count index place) (given (stop ∷ [])) i
    unfolding end_at
    cover_found start stop m s e h = answered (stop ∷ []) (rw (lt-ltb i count h, le-leb (start_at w l i) place (omega (arith, s.answer)), e.answer))

-- ---- two results of a query of the same arguments are one: the answer and the next index
pub query_unique : (w : ℕ) (l : List ℕ) (count index place : ℕ) {r r' : Result (Option ℕ) Refusal} {i i' : ℕ} → Steps (cover_answer w l count index place) (cover_next w l count index place) (told_found r) i
    → Steps (cover_answer w l count index place) (cover_next w l count index place) (told_found r') i' → (r ≡ r') × (i ≡ i')
query_unique w l count index place a b = (found_unique {o = cover_answer w l count index place} (record { answer = a.answer }) (record { answer = b.answer }), a.next ∙ sym b.next)

pub cover_unique : (w : ℕ) (l : List ℕ) (count index place : ℕ) {r r' : Cover} → Steps (cover_answer w l count index place) (cover_next w l count index place) (told_found r.found) r.index
    → Steps (cover_answer w l count index place) (cover_next w l count index place) (told_found r'.found) r'.index → r ≡ r'
cover_unique w l count index place {r} {r'} a b =
    let e = query_unique w l count index place a b in
    ap (λ (f : Result (Option ℕ) Refusal). record { found = f; index = r.index }) e.0 ∙ ap (λ (i : ℕ). record { found = r'.found; index = i }) e.1

-- ---- two queries, of which the second goes on from the index that the first left
module _ (l : List ℕ) (count index first second : ℕ) where
  pub cover_twice : (t u : Result (Option ℕ) Refusal) (m k : ℕ) → Steps (cover_answer wide l count index first) (cover_next wide l count index first) (told_found t) m
      → Steps (cover_answer wide l count m second) (cover_next wide l count m second) (told_found u) k → CoveredBoth l count index first second (record { first = t; second = u; index = k })
  unfolding cover_run
  cover_twice t u m k a b =
      record { answers = ap (λ (o : Outcome). o ∷ told_found u ∷ []) a.answer ∙ ap (λ (o : Outcome). cover_answer wide l count index first ∷ o ∷ []) (b.answer ∙ ap (λ (i : ℕ). cover_answer wide l count i second) a.next); next = b.next ∙ ap (λ (i : ℕ). cover_next wide l count i second) a.next }

  -- two results of the same queries are one
  pub both_unique : {r r' : CoverPair} → CoveredBoth l count index first second r → CoveredBoth l count index first second r' → r ≡ r'
  both_unique {r} {r'} a b =
      let e : told_found r.first ∷ told_found r.second ∷ [] ≡ told_found r'.first ∷ told_found r'.second ∷ [] = a.answers ∙ sym b.answers in
      let x : r.first ≡ r'.first = found_unique {o = told_found r'.first} (record { answer = cc }) (record { answer = refl }) in
      let y : r.second ≡ r'.second = found_unique {o = told_found r'.second} (record { answer = cc }) (record { answer = refl }) in
      let z : r.index ≡ r'.index = a.next ∙ sym b.next in
      alike x y z
    where
      alike : r.first ≡ r'.first → r.second ≡ r'.second → r.index ≡ r'.index → r ≡ r'
      alike x y z = ap (λ (f : Result (Option ℕ) Refusal). record { first = f; second = r.second; index = r.index }) x ∙ ap (λ (f : Result (Option ℕ) Refusal). record { first = r'.first; second = f; index = r.index }) y ∙ ap (λ (i : ℕ). record { first = r'.first; second = r'.second; index = i }) z

-- ---- plain coverage of a list in order
module _ (place : ℕ) where
  coverage_yes : (r : List ℕ) (l : List (List ℕ)) → covers place r ≡ true → coverage place (r ∷ l) ≡ stop_of r ∷ coverage place l
  unfolding coverage
  coverage_yes r l e = rw (e, coverage)

  coverage_no : (r : List ℕ) (l : List (List ℕ)) → covers place r ≡ false → coverage place (r ∷ l) ≡ coverage place l
  unfolding coverage
  coverage_no r l e = rw (e, coverage)

  coverage_early : (r : List ℕ) (l : List (List ℕ)) → place < start_of r → coverage place (r ∷ l) ≡ coverage place l
  coverage_early r l h = coverage_no r l (rw (lt-leb (start_of r) place h))

  coverage_late : (r : List ℕ) (l : List (List ℕ)) → stop_of r ≤ place → coverage place (r ∷ l) ≡ coverage place l
  coverage_late r l h = coverage_no r l (rw (le-ltb place (stop_of r) h) (and-false (leb (start_of r) place)))

  -- none of the regions after it
  coverage_none : (from len : ℕ) (l : List (List ℕ)) → Shaped from len l → place < from → coverage place l ≡ []
  unfolding coverage
  coverage_none from len [] s h = refl
  coverage_none from len (r ∷ l) s h = coverage_early r l (omega arith) ∙ coverage_none (stop_of r) len l s.3 (omega arith)

  -- the next region's end, where all before it end at or before the place
  abbrev next : List (List ℕ) → List ℕ
  next [] = []
  next (r ∷ l) = cond (leb (start_of r) place) (stop_of r ∷ []) []

  coverage-next : (from len k : ℕ) (l : List (List ℕ)) → Shaped from len l → k ≤ length l → ((j : ℕ) → j < k → stop_of (get_or l j []) ≤ place) → (k < length l → place < stop_of (get_or l k [])) → coverage place l ≡ next (drop k l)
  unfolding coverage
  coverage-next from len zero [] s h before at = refl
  coverage-next from len zero (r ∷ l) s h before at = by (decide (leb (start_of r) place))
    where
      by : (leb (start_of r) place ≡ true) ⊎ (leb (start_of r) place ≡ false) → coverage place (r ∷ l) ≡ next (r ∷ l)
      by (inl u) =
          let m = at (omega arith) in
          coverage_yes r l (rw (u, lt-ltb place (stop_of r) m)) ∙ ap (λ (z : List ℕ). stop_of r ∷ z) (coverage_none (stop_of r) len l s.3 m) ∙ sym (rw u)
      by (inr u) =
          let m = leb-false (start_of r) place u in
          coverage_early r l m ∙ coverage_none (stop_of r) len l s.3 (omega (arith, s.1)) ∙ sym (rw u)
  coverage-next from len (suc k) [] s h before at = absurd (omega arith)
  coverage-next from len (suc k) (r ∷ l) s h before at =
      coverage_late r l (before 0 (omega arith)) ∙ coverage-next (stop_of r) len k l s.3 (omega arith) (λ j m. before (suc j) (omega arith)) (λ m. at (omega arith))

-- a list of `count` entries in order, of w numbers each
module _ (w : ℕ) (wide : 2 ≤ w) (l : List ℕ) (count from len : ℕ) (shape : Shaped from len (rows w count l)) where
  row_start : (k : ℕ) → k < count → start_of (get_or (rows w count l) k []) ≡ start_at w l k
  row_start k h =
      let e : k * w + 0 ≡ k * w = omega arith in
      rows_at w count k 0 l h (omega arith) ∙ rw e

  row_stop : (k : ℕ) → k < count → stop_of (get_or (rows w count l) k []) ≡ stop_at w l k
  row_stop k h = rows_at w count k 1 l h (omega arith)

  -- where all regions before the index end at or before the place
  module _ (index place : ℕ) (low : index ≤ count) (ended : (j : ℕ) → j < index → stop_at w l j ≤ place) where
    passed-within : passed w l count index place ≤ count
    unfolding passed
    passed-within = first_le (ends_after w l place) index count low

    -- so do those that the query skips
    passed_ended : (j : ℕ) → j < passed w l count index place → stop_at w l j ≤ place
    unfolding passed
    passed_ended j h = by (decide (ltb j index))
      where
        by : (ltb j index ≡ true) ⊎ (ltb j index ≡ false) → stop_at w l j ≤ place
        by (inl u) = ended j (ltb-true j index u)
        by (inr u) = ltb-false place (stop_at w l j) (first_before (ends_after w l place) index count j (ltb-false j index u) h)

    passed-at : passed w l count index place < count → place < stop_at w l (passed w l count index place)
    unfolding passed
    passed-at h = ltb-true place (stop_at w l (passed w l count index place)) (first-at (ends_after w l place) index count h)

    query_plain : end_at w l count (passed w l count index place) place ≡ coverage place (rows w count l)
    unfolding end_at
    query_plain = by (decide (ltb m count)) ∙ sym (coverage-next place from len m (rows w count l) shape (omega (arith, passed-within, length-rows w count l)) (λ j h. omega (arith, row_stop j (omega (arith, passed-within)), passed_ended j h)) (λ h. let k : m < count = omega (arith, length-rows w count l) in omega (arith, row_stop m k, passed-at k)))
      where
        m : ℕ
        m = passed w l count index place

        by : (ltb m count ≡ true) ⊎ (ltb m count ≡ false) → cond (ltb m count && leb (start_at w l m) place) (stop_at w l m ∷ []) [] ≡ next place (drop m (rows w count l))
        by (inl u) =
            let h = ltb-true m count u in
            let e : drop m (rows w count l) ≡ get_or (rows w count l) m [] ∷ drop (suc m) (rows w count l) = drop-cons (rows w count l) m [] (omega (arith, length-rows w count l)) in
            rw (u, e, row_start m h, row_stop m h)
        by (inr u) =
            let h = ltb-false m count u in
            let e : drop m (rows w count l) ≡ [] = drop_of_length-le (rows w count l) {i = m} (omega (arith, length-rows w count l)) in
            rw (u, e)

  module _ (fits : count ≤ room w l) where
    -- one query from an index that is `Ended` for its place is plain coverage, and leaves such an index
    pub query_ended : {index place i : ℕ} {o : Outcome} → Ended w l count index place → Steps (cover_answer w l count index place) (cover_next w l count index place) o i
        → (o ≡ given (coverage place (rows w count l))) × Ended w l count i place
    unfolding cover_answer cover_next
    query_ended {index} {place} {i} e q =
        let n : i ≡ passed w l count index place = q.next ∙ simp (le-ltb (room w l) count fits) in (
          q.answer ∙ simp (le-ltb (room w l) count fits) (ap given (query_plain index place e.within e.before)),
          rw n (record { within = passed-within index place e.within e.before; before = passed_ended index place e.within e.before }),
        )

    run_plain : (index low : ℕ) (ps : List ℕ) → index ≤ count → ((j : ℕ) → j < index → stop_at w l j ≤ low) → Rising low ps → cover_run w l count index ps ≡ map (λ p. given (coverage p (rows w count l))) ps
    unfolding cover_run cover_answer cover_next
    run_plain index low [] h ended up = refl
    run_plain index low (p ∷ ps) h ended up =
        let now : (j : ℕ) → j < index → stop_at w l j ≤ p = λ j k. omega (arith, ended j k, up.0) in
        rw (le-ltb (room w l) count fits, query_plain index p h now)
        (ap (λ (z : List Outcome). given (coverage p (rows w count l)) ∷ z) (run_plain (passed w l count index p) p ps (passed-within index p h now) (passed_ended index p h now) up.1))

    -- "With a list as built, a fresh cursor and places that never fall, that is plain coverage."
    pub fresh_plain : (low : ℕ) (ps : List ℕ) → Rising low ps → cover_run w l count 0 ps ≡ map (λ p. given (coverage p (rows w count l))) ps
    fresh_plain low ps up = run_plain 0 low ps (omega arith) (λ j h. absurd (omega arith)) up
