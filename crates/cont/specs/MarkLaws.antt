-- Laws of markers, and the rules of the functions that follow them along a line. Assumes nothing.
use Rattle.std.specs.Prelude.{◌≡◌, List, [], ◌∷◌, ◌++◌, Bool, ◌&&◌, ◌⊎◌, ltb, get_or, drop, set}
use Rattle.std.proofs.Math.Path.{refl}
use Rattle.std.proofs.Common.{sym, ap, ◌∙◌, append_assoc, inl, inr, not-suc-le-zero, Fits, length-append, drop_at}
use Rattle.std.proofs.Math.Bool.{true, false, cond, and-false}
use Prim.Native.Nat.{ℕ, zero, suc, ◌+◌, ◌-◌, ◌≤◌, ◌<◌}
use native.Mathlib.Omega.{arith}
use Rattle.std.specs.Int.{w32}
use Rattle.std.proofs.Math.ListN.{length, take}
use borrow.Author.Tests.{lt-ltb, le-ltb, ltb-true}
use Rattle.search.specs.Promise.{Gives}
use Rattle.search.specs.Search.{is, either, holds, line_end}
use Rattle.search.specs.SearchLaws.{decide, and_true, holds_in}
use Rattle.cont.specs.declared.Framing.{Framing}
use Rattle.cont.specs.Frames.{mark_at, after_mark, marks_from, line_marks}
use Rattle.common.specs.Entry.{put_at}
use Rattle.cont.specs.Steps.{Peels, Opens}

module _ (m : Framing) (s : List ℕ) where
  -- ---- one marker
  pub mark_in : (e p : ℕ) → mark_at m s e p ≡ true → p < e
  unfolding mark_at
  mark_in e p h = ltb-true p e (and_true (ltb p e) (holds (is m.byte) s p) h).0

  pub mark-told : (e p : ℕ) {y : Bool} → y ≡ true → Gives (mark_at m s e p) y → p < e
  mark-told e p t g = mark_in e p (sym g.answer ∙ t)

  -- the place of a marker fits 32 bits
  pub mark_fits : (e p : ℕ) {y : Bool} → y ≡ true → Gives (mark_at m s e p) y → e ≤ length s → length s ≤ 4294967295 → Fits w32 p
  mark_fits e p t g h l = record { fits = omega (arith, mark-told e p t g) }

  pub mark_none : (e p : ℕ) → holds (is m.byte) s p ≡ false → mark_at m s e p ≡ false
  unfolding mark_at
  mark_none e p h = rw h (and-false (ltb p e))

  pub mark_here : (e p : ℕ) (y : Bool) → p < e → Gives (holds (is m.byte) s p) y → Gives (mark_at m s e p) y
  unfolding mark_at
  mark_here e p y h g = record { answer = rw (lt-ltb p e h) g.answer }

  pub mark-past : (e p : ℕ) → e ≤ p → Gives (mark_at m s e p) false
  unfolding mark_at
  mark-past e p h = record { answer = rw (le-ltb p e h) }

  -- so the test that failed is the answer
  pub mark-failed : (e p : ℕ) → e ≤ p → Gives (mark_at m s e p) (ltb p e)
  mark-failed e p h = rw (le-ltb p e h) (mark-past e p h)

  pub after_gt : (e p : ℕ) → p < after_mark m s e p
  unfolding after_mark
  after_gt e p = by (ltb (p + 1) e && holds (either m.sep m.tab) s (p + 1))
    where
      by : (y : Bool) → p < cond y (p + 2) (p + 1)
      by true = omega arith
      by false = omega arith

  pub after_blank : (e p : ℕ) (y : Bool) → y ≡ true → p + 1 < e → e ≤ length s → Gives (either m.sep m.tab (get_or s (p + 1) 0)) y → Gives (after_mark m s e p) (p + 2)
  unfolding after_mark
  after_blank e p y t h l g = record { answer = simp (lt-ltb (p + 1) e h, holds_in (either m.sep m.tab) s (p + 1) (omega arith), ← g.answer, t) }

  pub after_other : (e p : ℕ) (y : Bool) → y ≡ false → p + 1 < e → e ≤ length s → Gives (either m.sep m.tab (get_or s (p + 1) 0)) y → Gives (after_mark m s e p) (p + 1)
  unfolding after_mark
  after_other e p y t h l g = record { answer = simp (lt-ltb (p + 1) e h, holds_in (either m.sep m.tab) s (p + 1) (omega arith), ← g.answer, t) }

  pub after_last : (e p : ℕ) → e ≤ p + 1 → Gives (after_mark m s e p) (p + 1)
  unfolding after_mark
  after_last e p h = record { answer = simp (le-ltb (p + 1) e h) }

  -- ---- markers one behind the other
  pub marks_true : (e n p : ℕ) → mark_at m s e p ≡ true → marks_from m s e (suc n) p ≡ p ∷ marks_from m s e n (after_mark m s e p)
  unfolding marks_from
  marks_true e n p h = rw (h, marks_from)

  pub marks_false : (e n p : ℕ) → mark_at m s e p ≡ false → marks_from m s e n p ≡ []
  unfolding marks_from
  marks_false e zero p h = refl
  marks_false e (suc n) p h = rw (h, marks_from)

  pub marks_zero : (e p : ℕ) → marks_from m s e 0 p ≡ []
  unfolding marks_from
  marks_zero e p = refl

  -- where n are asked for, the first n of those of which more are
  pub marks_take : (e n c p : ℕ) → n ≤ c → marks_from m s e n p ≡ take n (marks_from m s e c p)
  unfolding marks_from
  marks_take e zero c p h = refl
  marks_take e (suc n) zero p h = absurd (not-suc-le-zero h)
  marks_take e (suc n) (suc c) p h = by (decide (mark_at m s e p)) (marks_take e n c (after_mark m s e p) (omega arith))
    where
      by : (mark_at m s e p ≡ true) ⊎ (mark_at m s e p ≡ false) → marks_from m s e n (after_mark m s e p) ≡ take n (marks_from m s e c (after_mark m s e p)) → marks_from m s e (suc n) p ≡ take (suc n) (marks_from m s e (suc c) p)
      by (inl u) ih = rw (marks_true e n p u, marks_true e c p u, ih)
      by (inr u) ih = rw (marks_false e (suc n) p u, marks_false e (suc c) p u)

  pub marks_few : (e n p : ℕ) → length (marks_from m s e n p) ≤ n
  unfolding marks_from
  marks_few e zero p = omega arith
  marks_few e (suc n) p = by (decide (mark_at m s e p)) (marks_few e n (after_mark m s e p))
    where
      by : (mark_at m s e p ≡ true) ⊎ (mark_at m s e p ≡ false) → length (marks_from m s e n (after_mark m s e p)) ≤ n → length (marks_from m s e (suc n) p) ≤ suc n
      by (inl u) ih = rw (marks_true e n p u) (omega arith)
      by (inr u) ih = rw (marks_false e (suc n) p u) (omega arith)

  pub marks_none : (a : ℕ) → holds (is m.byte) s a ≡ false → line_marks m s a ≡ []
  unfolding line_marks
  marks_none a h = marks_false (line_end m.eol s a) m.cap a (mark_none (line_end m.eol s a) a h)

-- ---- a loop that has passed i of the first n markers from p and stands at q
pub record Peeling (m : Framing) (s : List ℕ) (e p n i q : ℕ) : Type 0 where
  pub few : i ≤ n
  pub front : List ℕ
  pub size : length front ≡ i
  pub same : (k : ℕ) → marks_from m s e (i + k) p ≡ front ++ marks_from m s e k q

module _ {m : Framing} {s : List ℕ} {e p n : ℕ} where
  pub peeling_first : Peeling m s e p n 0 p
  peeling_first = record { few = omega arith; front = []; size = refl; same = λ k. let z : 0 + k ≡ k = omega arith in rw z }

  module _ {i q : ℕ} (w : Peeling m s e p n i q) where
    pub peeling_again : {y : Bool} {r : ℕ} → y ≡ true → Gives (mark_at m s e q) y → Gives (after_mark m s e q) r → i < n → Peeling m s e p n (i + 1) r
    peeling_again {y} {r} t g a h =
        record {
          few = omega arith;
          front = w.front ++ (q ∷ []);
          size = omega (arith, length-append w.front (q ∷ []), w.size);
          same =
              λ k.
              let z : i + 1 + k ≡ i + suc k = omega arith in
              rw (z, w.same (suc k), marks_true m s e k q (sym g.answer ∙ t), a.answer) (sym (append_assoc w.front (q ∷ []) (marks_from m s e k (after_mark m s e q))));
        }

    rest : (k : ℕ) → drop i (marks_from m s e (i + k) p) ≡ marks_from m s e k q
    rest k = rw (w.same k) (drop_at w.front (marks_from m s e k q) i w.size)

    count : length (marks_from m s e (n - i) q) ≡ 0 → i ≡ length (marks_from m s e n p)
    count z =
        let x : i + (n - i) ≡ n = omega (arith, w.few) in
        let l = ap length (w.same (n - i)) ∙ length-append w.front (marks_from m s e (n - i) q) in
        let d : length (marks_from m s e (i + (n - i)) p) ≡ length (marks_from m s e n p) = rw x in
        omega (arith, w.size)

    pub peeling_lacks : {y : Bool} → y ≡ false → Gives (mark_at m s e q) y → Peels m s e p n (record { count = i; cur = q })
    peeling_lacks t g = record { count = count (ap length (marks_false m s e (n - i) q (sym g.answer ∙ t))); rest = rest }

    pub peeling_all : n ≤ i → Peels m s e p n (record { count = i; cur = q })
    peeling_all h =
        let x : n - i ≡ 0 = omega arith in
        record { count = count (rw x (ap length (marks_zero m s e q))); rest = rest }

-- ---- a loop that stores the markers from p on behind n open frames, up to the cap, and stands at q with k open
pub record OpeningFrames (m : Framing) (s : List ℕ) (e p n : ℕ) (old new : List ℕ) (q k : ℕ) : Type 0 where
  pub cells : put_at k (marks_from m s e (m.cap - k) q) new ≡ put_at n (marks_from m s e (m.cap - n) p) old
  pub count : k + length (marks_from m s e (m.cap - k) q) ≡ n + length (marks_from m s e (m.cap - n) p)

module _ {m : Framing} {s : List ℕ} {e p n : ℕ} {old : List ℕ} where
  pub opening-first : OpeningFrames m s e p n old old p n
  opening-first = record { cells = refl; count = refl }

  module _ {new : List ℕ} {q k : ℕ} (w : OpeningFrames m s e p n old new q k) where
    pub opening_again : {y : Bool} {r : ℕ} → y ≡ true → Gives (mark_at m s e q) y → Gives (after_mark m s e q) r → k < m.cap → OpeningFrames m s e p n old (set new k q) r (k + 1)
    opening_again {y} {r} t g a h =
        let z : m.cap - k ≡ suc (m.cap - (k + 1)) = omega arith in
        let l : marks_from m s e (m.cap - k) q ≡ q ∷ marks_from m s e (m.cap - (k + 1)) r = rw (z, marks_true m s e (m.cap - (k + 1)) q (sym g.answer ∙ t), a.answer) in
        record { cells = ap (λ (x : List ℕ). put_at k x new) (sym l) ∙ w.cells; count = omega (arith, ap length l, w.count) }

    none : marks_from m s e (m.cap - k) q ≡ [] → Opens (marks_from m s e (m.cap - n) p) n old new k
    none z = record { cells = ap (λ (x : List ℕ). put_at k x new) (sym z) ∙ w.cells; count = omega (arith, ap length z, w.count) }

    pub opening_last : {y : Bool} → y ≡ false → Gives (mark_at m s e q) y → Opens (marks_from m s e (m.cap - n) p) n old new k
    opening_last t g = none (marks_false m s e (m.cap - k) q (sym g.answer ∙ t))

    pub opening_full : m.cap ≤ k → Opens (marks_from m s e (m.cap - n) p) n old new k
    opening_full h =
        let z : m.cap - k ≡ 0 = omega arith in
        none (rw z (marks_zero m s e q))
