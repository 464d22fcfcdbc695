-- The frames of a text lie within it, and there are no more of them than it has bytes. Assumes nothing.
use Rattle.std.specs.Prelude.{◌≡◌, refl, true, false, List, ◌⊎◌, ltb, take, drop}
use Rattle.std.proofs.Math.Path.{ap}
use Rattle.std.proofs.Common.{◌∙◌, inl, inr, not-suc-le-zero, arith, length-append, ltb-true, ltb-false}
use Prim.Native.Nat.{ℕ, zero, suc, ◌+◌, ◌-◌, ◌≤◌, ◌<◌}
use Rattle.std.proofs.Math.ListN.{length}
use Rattle.search.specs.Search.{is, line_start, line_end, after_line}
use Rattle.search.specs.SearchLaws.{decide, find_ge, find_le, line_one, line-next}
use Rattle.common.specs.Turn.{between, None}
use Rattle.common.specs.Turning.{Each}
use Rattle.common.specs.EachLaws.{each_append, each_get_or, each_drop, each_take, each_gather, each_as}
use Rattle.common.specs.declared.span.Span.{Span}
use Rattle.cont.specs.declared.Framing.{Framing}
use Rattle.cont.specs.Frames.{mark_at, after_mark, marks_from, line_marks, depth, frames}
use Rattle.cont.specs.Cont.{closed_frames}
use Rattle.cont.specs.MarkLaws.{mark_in, after_gt, marks_true, marks_false, marks_zero}
use Rattle.cont.specs.TurnLaws.{closing-length}
use Rattle.cont.specs.StackLaws.{opened, deeper, closed_at, Rest, restacked-length, opened-line, opened-same, opened-stretch, closed_no_line, closed_line, rest_at, rest_end, frames-rest}

-- a frame within a text of length len
abbrev pub Inside : ℕ → Span → Type 0
Inside len f = (f.start ≤ len) × (f.end ≤ len)

closing-inside : (len : ℕ) (o : List ℕ) (e from k : ℕ) → Each (λ x. x ≤ len) o → e ≤ len → Each (Inside len) (closed_frames o e from k)
closing-inside len o e from zero w h = tt
closing-inside len o e from (suc k) w h = ((each_get_or (λ x. x ≤ len) o 0 w (omega arith) (from + k), h), closing-inside len o e from k w h)

module _ (m : Framing) (s : List ℕ) where
  -- ---- markers: they lie on their line, and there are no more of them than the line has bytes
  marks_inside : (e n p : ℕ) → Each (λ x. x ≤ e) (marks_from m s e n p)
  marks_inside e zero p = rw (marks_zero m s e p) tt
  marks_inside e (suc n) p = by (marks_inside e n (after_mark m s e p)) (decide (mark_at m s e p))
    where
      by : Each (λ x. x ≤ e) (marks_from m s e n (after_mark m s e p)) → (mark_at m s e p ≡ true) ⊎ (mark_at m s e p ≡ false) → Each (λ x. x ≤ e) (marks_from m s e (suc n) p)
      by ih (inl u) = rw (marks_true m s e n p u) (omega (arith, mark_in m s e p u), ih)
      by ih (inr u) = rw (marks_false m s e (suc n) p u) tt

  marks_short : (e n p : ℕ) → length (marks_from m s e n p) ≤ e - p
  marks_short e zero p = rw (marks_zero m s e p) (omega arith)
  marks_short e (suc n) p = by (marks_short e n (after_mark m s e p)) (decide (mark_at m s e p))
    where
      by : length (marks_from m s e n (after_mark m s e p)) ≤ e - after_mark m s e p → (mark_at m s e p ≡ true) ⊎ (mark_at m s e p ≡ false) → length (marks_from m s e (suc n) p) ≤ e - p
      by ih (inl u) = rw (marks_true m s e n p u) (omega (arith, mark_in m s e p u, after_gt m s e p))
      by ih (inr u) = rw (marks_false m s e (suc n) p u) (omega arith)

  -- ---- frames lie within the text
  opened_inside : (a : ℕ) → a ≤ length s → Each (λ x. x ≤ length s) (opened m s a)
  unfolding opened line_marks
  opened_inside zero h = tt
  opened_inside (suc a) h = by (opened_inside a (omega arith)) (decide (line_start m.eol s a))
    where
      by : Each (λ x. x ≤ length s) (opened m s a) → (line_start m.eol s a ≡ true) ⊎ (line_start m.eol s a ≡ false) → Each (λ x. x ≤ length s) (opened m s (suc a))
      by ih (inl u) =
          let e = line_end m.eol s a in
          let w = each_as (λ x. x ≤ e) (λ x. x ≤ length s) (λ x i. omega (arith, find_le (is m.eol) s a (omega arith))) (line_marks m s a) (marks_inside e m.cap a) in
          rw (opened-line m s a u) (each_append (λ x. x ≤ length s) (take (depth m s a) (opened m s a)) (drop (length (opened m s a)) (line_marks m s a)) (each_take (λ x. x ≤ length s) (depth m s a) (opened m s a) ih) (each_drop (λ x. x ≤ length s) (length (opened m s a)) (line_marks m s a) w))
      by ih (inr u) = rw (opened-same m s a u) ih

  closed_inside : (a : ℕ) → a ≤ length s → Each (Inside (length s)) (closed_at m s a)
  closed_inside a h = by (decide (line_start m.eol s a))
    where
      by : (line_start m.eol s a ≡ true) ⊎ (line_start m.eol s a ≡ false) → Each (Inside (length s)) (closed_at m s a)
      by (inl u) = rw (closed_line m s a u) (closing-inside (length s) (opened m s a) a (depth m s a) (length (opened m s a) - depth m s a) (opened_inside a h) h)
      by (inr u) = rw (closed_no_line m s a u) tt

  pub frames-inside : Each (Inside (length s)) (frames m s)
  frames-inside =
      let o = opened m s (length s) in
      rw (frames-rest m s)
      (each_append (Inside (length s)) (between (closed_at m s) 0 (length s)) (deeper o 0 (length s)) (each_gather (Inside (length s)) (closed_at m s) (length s - 0) 0 (λ k l h. closed_inside k (omega arith)))
      (closing-inside (length s) o (length s) 0 (length o - 0) (opened_inside (length s) (omega arith)) (omega arith)))

  -- ---- and are few: from a line's start on, no more than are open there and than bytes are left
  rest-few : (f p : ℕ) → p ≤ length s → length s - p < f → (p < length s → line_start m.eol s p ≡ true) → length (Rest m s p) ≤ length (opened m s p) + (length s - p)
  unfolding line_marks
  rest-few zero p h l st = absurd (not-suc-le-zero l)
  rest-few (suc f) p h l st = by (rest-few f) (decide (ltb p (length s)))
    where
      a : ℕ
      a = after_line m.eol s p

      e : ℕ
      e = line_end m.eol s p

      moves : p < length s → p < a
      moves i = omega (arith, find_ge (is m.eol) s p)

      within : None (closed_at m s) (suc p) a
      within k x y = closed_no_line m s k (line_one m.eol s p k x (omega arith))

      later : p < length s → length (opened m s a) ≡ depth m s p
      later i =
          ap length (opened-stretch m s (a - suc p) (suc p) a (omega (arith, moves i)) (λ k y z. line_one m.eol s p k y (omega arith)) ∙ opened-line m s p (st i)) ∙ restacked-length (opened m s p) (line_marks m s p)

      short : depth m s p ≤ e - p
      short = marks_short e m.cap p

      by : ((q : ℕ) → q ≤ length s → length s - q < f → (q < length s → line_start m.eol s q ≡ true) → length (Rest m s q) ≤ length (opened m s q) + (length s - q)) → (ltb p (length s) ≡ true) ⊎ (ltb p (length s) ≡ false)
          → length (Rest m s p) ≤ length (opened m s p) + (length s - p)
      by ih (inl u) =
          let i = ltb-true p (length s) u in
          let r : length (Rest m s p) ≡ length (closed_at m s p) + length (Rest m s a) = ap length (rest_at m s p a (moves i) (omega arith) within) ∙ length-append (closed_at m s p) (Rest m s a) in
          let c : length (closed_at m s p) ≡ length (opened m s p) - depth m s p = ap length (closed_line m s p (st i)) ∙ closing-length (opened m s p) p (depth m s p) (length (opened m s p) - depth m s p) in
          omega (arith, r, c, later i, short, moves i, find_le (is m.eol) s p h, ih a (omega arith) (omega (arith, moves i)) (line-next m.eol s p h))
      by ih (inr u) =
          let n : p ≡ length s = omega (arith, ltb-false p (length s) u) in
          let o = opened m s (length s) in
          rw n (omega (arith, ap length (rest_end m s), closing-length o (length s) 0 (length o - 0)))

  pub frames-few : length (frames m s) ≤ length s
  unfolding opened line_start
  frames-few = omega (arith, ap length (frames-rest m s), rest-few (suc (length s)) 0 (omega arith) (omega arith) (λ i. refl))
