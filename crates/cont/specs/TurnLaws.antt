-- Laws of the turns, and the rules of the functions that take them, close frames and scan. Assumes nothing.
use Rattle.std.specs.Prelude.{◌≡◌, List, ◌∷◌, Bool, true, false, cond, ◌⊎◌, ltb, get_or, set}
use Rattle.std.proofs.Math.Path.{refl, sym}
use Rattle.std.proofs.Common.{ap, subst, ◌∙◌, inl, inr, not-suc-le-zero}
use Prim.Native.Nat.{ℕ, zero, suc, ◌+◌, ◌-◌, ◌≤◌, ◌<◌}
use native.Mathlib.Omega.{arith}
use Rattle.std.proofs.Math.ListN.{length, drop, drop_of_length-le}
use borrow.Author.Tests.{lt-ltb, le-ltb, ltb-true, ltb-false}
use Rattle.search.specs.Promise.{Gives}
use Rattle.search.specs.Search.{is, holds, find, Sought, line_start, next_line, after_line}
use Rattle.search.specs.SearchLaws.{decide, find_ge, find_here, sought, holds_true}
use Rattle.common.specs.ItemLaws.{both}
use Rattle.common.specs.declared.span.Span.{Span}
use Rattle.cont.specs.declared.Framing.{Framing}
use Rattle.cont.specs.declared.Peeled.{Peeled}
use Rattle.cont.specs.declared.Turn.{Turn as Told}
use Rattle.cont.specs.declared.Turn.TheVariants.{Go, Close, Stop}
use Rattle.cont.specs.Frames.{frame, marks_from, line_marks}
use Rattle.common.specs.Entry.{put_at}
use Rattle.cont.specs.Cont.{closed_frames, Stand, stand, FrameTurn, go, close, stop, kept, new_marks, close_from, open_with, turn_on_line, next_turn, then_shut, shut_within, first_shut}
use Rattle.cont.specs.Steps.{Peels, Opens, view, TurnWithin, FrameTurned, Scanned}
use Rattle.cont.specs.MarkLaws.{marks_few, marks_zero}

-- ---- frames that close together
pub closing-length : (o : List ℕ) (e from k : ℕ) → length (closed_frames o e from k) ≡ k
closing-length o e from zero = refl
closing-length o e from (suc k) = ap suc (closing-length o e from k)

-- the innermost of the frames from `from` up to i goes first
closing-next : (o : List ℕ) (e from i : ℕ) → from < i → closed_frames o e from (i - from) ≡ frame (get_or o (i - 1) 0) e ∷ closed_frames o e from (i - 1 - from)
closing-next o e from i h =
    let z : i - from ≡ suc (i - 1 - from) = omega arith in
    let x : from + (i - 1 - from) ≡ i - 1 = omega arith in
    rw z (ap (λ (j : ℕ). frame (get_or o j 0) e ∷ closed_frames o e from (i - 1 - from)) x)

-- ---- a loop that closes the frames from `from` up to n at e, has those up to i left and stands at k of the cells
pub record Closing (o : List ℕ) (from n e : ℕ) (old new : List Span) (i k : ℕ) : Type 0 where
  pub cells : put_at k (closed_frames o e from (i - from)) new ≡ put_at 0 (closed_frames o e from (n - from)) old
  pub sum : k + i ≡ n

module _ {o : List ℕ} {from n e : ℕ} {old : List Span} where
  pub closing-first : Closing o from n e old old n 0
  closing-first = record { cells = refl; sum = omega arith }

  module _ {new : List Span} {i k : ℕ} (w : Closing o from n e old new i k) where
    pub closing_again : from < i → Closing o from n e old (set new k (frame (get_or o (i - 1) 0) e)) (i - 1) (k + 1)
    closing_again h =
        record { cells = ap (λ (x : List Span). put_at k x new) (sym (closing-next o e from i h)) ∙ w.cells; sum = omega (arith, w.sum) }

    pub closing_end : i ≤ from → Gives (put_at 0 (closed_frames o e from (n - from)) old) new
    closing_end h =
        let z : i - from ≡ 0 = omega arith in
        record { answer = ap (λ (x : ℕ). put_at k (closed_frames o e from x) new) (sym z) ∙ w.cells }

-- the k-th cell gets the k-th frame from the innermost on
abbrev pub ClosingAt : List ℕ → ℕ → ℕ → ℕ → List Span → List Span → ℕ → Type 0
ClosingAt o from n e old new k = Closing o from n e old new (n - k) k

pub closing_start : {o : List ℕ} {from n e : ℕ} {old : List Span} → ClosingAt o from n e old old 0
closing_start {n = n} = let z : n - 0 ≡ n = omega arith in rw z closing-first

module _ {o : List ℕ} {from n e : ℕ} {old new : List Span} {k : ℕ} (w : ClosingAt o from n e old new k) where
  pub closing_on : k < n - from → ClosingAt o from n e old (set new k (frame (get_or o (n - 1 - k) 0) e)) (k + 1)
  closing_on h =
      let x : n - 1 - k ≡ n - k - 1 = omega arith in
      let y : n - (k + 1) ≡ n - k - 1 = omega arith in
      rw (x, y) (closing_again w (omega arith))

  pub closing_all : n - from ≤ k → Gives (put_at 0 (closed_frames o e from (n - from)) old) new
  closing_all h = closing_end w (omega arith)

-- ---- turns
pick_yes : (y : Bool) (a b t : FrameTurn) → y ≡ true → t ≡ a → t ≡ cond y a b
pick_yes y a b t e f = rw e f

pick_no : (y : Bool) (a b t : FrameTurn) → y ≡ false → t ≡ b → t ≡ cond y a b
pick_no y a b t e f = rw e f

-- a turn at q that only goes on moves on within the text
abbrev pub MovesOn : ℕ → ℕ → FrameTurn → Type 0
MovesOn len q (go t) = (q < t.pos) × (t.pos ≤ len)
MovesOn len q (close l t) = Unit {0}
MovesOn len q (stop t) = Unit {0}

module _ (m : Framing) (s : List ℕ) where
  line-ahead : (q p : ℕ) (o : List ℕ) (n : ℕ) → q ≤ p → p < length s → MovesOn (length s) q (turn_on_line m s p o n)
  unfolding turn_on_line
  line-ahead q p o n h l =
      both (MovesOn (length s) q) (ltb (kept m s p n) n) (close_from m s p o n (kept m s p n)) (open_with m s p o n (new_marks m s p n))
      (λ e. tt)
      (λ e. (omega (arith, find_ge (is m.eol) s p), omega arith))

  pub turn-ahead : (t : Stand) → t.pos ≤ length s → MovesOn (length s) t.pos (next_turn m s t)
  unfolding next_turn
  turn-ahead t h =
      let q = t.pos in
      let p = find (is m.byte) s q in
      let lo = find_ge (is m.byte) s q in
      both (MovesOn (length s) q) (ltb 0 t.count) _ _
      (λ a.
      both (MovesOn (length s) q) (ltb q (length s)) _ _
      (λ b. both (MovesOn (length s) q) (holds (is m.byte) s q) _ _ (λ d. line-ahead q q t.cells t.count (omega arith) (ltb-true q (length s) b)) (λ d. tt))
      (λ b. tt))
      (λ a.
      both (MovesOn (length s) q) (ltb p (length s)) _ _
      (λ b.
      both (MovesOn (length s) q) (line_start m.eol s p) _ _
      (λ d. line-ahead q p t.cells t.count lo (ltb-true p (length s) b))
      (λ d. let l = ltb-true p (length s) b in (omega arith, omega arith)))
      (λ b. tt))

  -- fuel past what is left of the text changes nothing
  shut_fuel : (f f' : ℕ) (t : Stand) → t.pos ≤ length s → length s - t.pos < f → length s - t.pos < f' → shut_within m s f t ≡ shut_within m s f' t
  unfolding shut_within
  shut_fuel zero f' t h l l' = absurd (not-suc-le-zero l)
  shut_fuel (suc f) zero t h l l' = absurd (not-suc-le-zero l')
  shut_fuel (suc f) (suc f') t h l l' = by (shut_fuel f f') (next_turn m s t) (turn-ahead t h)
    where
      by : ((u : Stand) → u.pos ≤ length s → length s - u.pos < f → length s - u.pos < f' → shut_within m s f u ≡ shut_within m s f' u) → (c : FrameTurn) → MovesOn (length s) t.pos c → then_shut (shut_within m s f) c ≡ then_shut (shut_within m s f') c
      by ih (go u) a = ih u a.1 (omega arith) (omega arith)
      by ih (close r u) a = refl
      by ih (stop u) a = refl

  pub shut-turn : (t : Stand) → t.pos ≤ length s → first_shut m s t ≡ then_shut (first_shut m s) (next_turn m s t)
  unfolding shut_within
  shut-turn t h = by (next_turn m s t) (turn-ahead t h)
    where
      by : (c : FrameTurn) → MovesOn (length s) t.pos c → then_shut (shut_within m s (length s)) c ≡ then_shut (first_shut m s) c
      by (go u) a = shut_fuel (length s) (suc (length s)) u a.1 (omega arith) (omega arith)
      by (close r u) a = refl
      by (stop u) a = refl

-- ---- the turn at a marker line
module _ {m : Framing} {s : List ℕ} {p e n a : ℕ} {r : Peeled} (i : p < length s) (le : Sought (is m.eol) s p e) (nl : Gives (next_line (length s) e) a) (w : Peels m s e p n r) where
  keeps : kept m s p n ≡ r.count
  keeps = ap (λ (x : ℕ). length (marks_from m s x n p)) (sym le.here) ∙ sym w.count

  after : after_line m.eol s p ≡ a
  after = ap (next_line (length s)) (sym le.here) ∙ sym nl.answer

  pub line-closes : {o : List ℕ} → r.count < n → FrameTurned (turn_on_line m s p o n) (length s) p n o (Close r.count p a)
  unfolding turn_on_line
  line-closes {o} h =
      record {
        tells = pick_yes (ltb (kept m s p n) n) (close_from m s p o n (kept m s p n)) (open_with m s p o n (new_marks m s p n)) (close (closed_frames o p r.count (n - r.count)) (stand a o r.count)) (rw keeps (lt-ltb r.count n h)) (rw (keeps, after));
        within = (omega arith, omega arith);
      }

  all : n ≤ r.count → r.count ≡ n
  all h = omega (arith, w.count, marks_few m s e n p)

  -- what is opened stands behind the markers of the open frames
  opens : n ≤ r.count → new_marks m s p n ≡ marks_from m s e (m.cap - n) r.cur
  unfolding line_marks
  opens h = rw (← le.here) (by (decide (ltb n m.cap)))
    where
      by : (ltb n m.cap ≡ true) ⊎ (ltb n m.cap ≡ false) → drop n (marks_from m s e m.cap p) ≡ marks_from m s e (m.cap - n) r.cur
      by (inl u) =
          let z : n + (m.cap - n) ≡ m.cap = omega (arith, ltb-true n m.cap u) in
          let x = w.rest (m.cap - n) in
          rw z at (rw (all h) at x)
      by (inr u) =
          let l = ltb-false n m.cap u in
          let z : m.cap - n ≡ 0 = omega arith in
          drop_of_length-le (marks_from m s e m.cap p) {i = n} (omega (arith, marks_few m s e m.cap p)) ∙ sym (rw z (marks_zero m s e r.cur))

  pub line-opens : {o new : List ℕ} {k : ℕ} → n ≤ r.count → n ≤ 32 → m.cap ≤ 32 → Opens (marks_from m s e (m.cap - n) r.cur) n o new k → FrameTurned (turn_on_line m s p o n) (length s) p n new (Go a k)
  unfolding turn_on_line
  line-opens {o} {new} {k} h f c g =
      record {
        tells = pick_no (ltb (kept m s p n) n) (close_from m s p o n (kept m s p n)) (open_with m s p o n (new_marks m s p n)) (go (stand a new k)) (rw keeps (le-ltb r.count n h)) (rw (opens h, after, g.cells, g.count));
        within = (omega (arith, le.low, nl.answer), omega (arith, nl.answer), omega (arith, g.count, marks_few m s e (m.cap - n) r.cur));
      }

-- ---- a turn, by the ways that it takes
module _ (m : Framing) (s : List ℕ) (q n : ℕ) (o : List ℕ) where
  pub turn_flush : 0 < n → length s ≤ q → FrameTurned (next_turn m s (stand q o n)) (length s) q n o (Close 0 (length s) q)
  unfolding next_turn
  turn_flush h l =
      let z : n - 0 ≡ n = omega arith in
      record { tells = rw (lt-ltb 0 n h, le-ltb q (length s) l, z); within = (omega arith, omega arith) }

  pub turn-line : {y : Bool} {new : List ℕ} {r : Told} → 0 < n → q < length s → y ≡ true → Gives (holds (is m.byte) s q) y → FrameTurned (turn_on_line m s q o n) (length s) q n new r → FrameTurned (next_turn m s (stand q o n)) (length s) q n new r
  unfolding next_turn
  turn-line h l t g w = record { tells = rw (lt-ltb 0 n h, lt-ltb q (length s) l, ← g.answer, t) w.tells; within = w.within }

  pub turn-closes : {y : Bool} {p : ℕ} → 0 < n → q < length s → y ≡ false → Gives (holds (is m.byte) s q) y → Sought (is m.byte) s q p → FrameTurned (next_turn m s (stand q o n)) (length s) q n o (Close 0 q p)
  unfolding next_turn
  turn-closes h l t g f =
      let z : n - 0 ≡ n = omega arith in
      record { tells = rw (lt-ltb 0 n h, lt-ltb q (length s) l, ← g.answer, t, z, f.here); within = (omega arith, omega arith) }

  module _ {p : ℕ} (h : n ≤ 0) (f : Sought (is m.byte) s q p) where
    pub turn_stops : length s ≤ p → q ≤ length s → FrameTurned (next_turn m s (stand q o n)) (length s) q n o (Stop q)
    unfolding next_turn
    turn_stops l i = record { tells = rw (le-ltb 0 n h, ← f.here, le-ltb p (length s) l); within = i }

    pub turn_starts : {y : Bool} {new : List ℕ} {r : Told} → p < length s → y ≡ true → Gives (line_start m.eol s p) y → FrameTurned (turn_on_line m s p o n) (length s) p n new r → FrameTurned (next_turn m s (stand q o n)) (length s) q n new r
    unfolding next_turn
    turn_starts {y} {new} {r} l t g w = record { tells = rw (le-ltb 0 n h, ← f.here, lt-ltb p (length s) l, ← g.answer, t) w.tells; within = within r w.within }
      where
        within : (r : Told) → TurnWithin (length s) p n r → TurnWithin (length s) q n r
        within (Go a k) v = (omega (arith, f.low), v.1, v.2)
        within (Close k b a) v = v
        within (Stop a) v = v

    pub turn-passes : {y : Bool} → p < length s → n ≤ 32 → y ≡ false → Gives (line_start m.eol s p) y → FrameTurned (next_turn m s (stand q o n)) (length s) q n o (Go (p + 1) n)
    unfolding next_turn
    turn-passes l c t g = record { tells = rw (le-ltb 0 n h, ← f.here, lt-ltb p (length s) l, ← g.answer, t); within = (omega (arith, f.low), omega arith, c) }

-- ---- a search whose first place passes
pub sought_here : (t : ℕ → Bool) (s : List ℕ) (i : ℕ) {y : Bool} → y ≡ true → Gives (holds t s i) y → Sought t s i i
sought_here t s i u g =
    let w = holds_true t s i (sym g.answer ∙ u) in
    sought t s i i (find_here t s i w.0 w.1)

-- ---- a loop of turns that began at t and stands at u
pub record Scans (m : Framing) (s : List ℕ) (t u : Stand) : Type 0 where
  pub inside : u.pos ≤ length s
  pub few : u.count ≤ 32
  pub same : first_shut m s t ≡ first_shut m s u

module _ (m : Framing) (s : List ℕ) (t : Stand) where
  pub scans_first : t.pos ≤ length s → t.count ≤ 32 → Scans m s t t
  scans_first h l = record { inside = h; few = l; same = refl }

  module _ {q n : ℕ} {o new : List ℕ} {r : Told} (w : Scans m s t (stand q o n)) (v : FrameTurned (next_turn m s (stand q o n)) (length s) q n new r) where
    ends_in : first_shut m s t ≡ then_shut (first_shut m s) (view n new r)
    ends_in = w.same ∙ shut-turn m s (stand q o n) w.inside ∙ ap (then_shut (first_shut m s)) (sym v.tells)

    pub scans_again : {p k : ℕ} → r ≡ Go p k → Scans m s t (stand p new k)
    scans_again {p} {k} e =
        let b : TurnWithin (length s) q n (Go p k) = subst (TurnWithin (length s) q n) e v.within in
        record { inside = b.1; few = b.2; same = ends_in ∙ ap (λ (x : Told). then_shut (first_shut m s) (view n new x)) e }

    pub scans_less : {p k : ℕ} → r ≡ Go p k → length s - p < length s - q
    scans_less {p} {k} e =
        let b : TurnWithin (length s) q n (Go p k) = subst (TurnWithin (length s) q n) e v.within in
        omega arith

    pub scans_close : {k e p : ℕ} → r ≡ Close k e p → Scanned (first_shut m s t) (length s) new (record { from = k; held = n; end = e; pos = p })
    scans_close {k} {e} {p} x =
        let b : TurnWithin (length s) q n (Close k e p) = subst (TurnWithin (length s) q n) x v.within in
        record { tells = sym (ends_in ∙ ap (λ (y : Told). then_shut (first_shut m s) (view n new y)) x); ordered = b.0; few = w.few; high = b.1 }

    pub scans_stop : {p : ℕ} → r ≡ Stop p → Scanned (first_shut m s t) (length s) new (record { from = n; held = n; end = p; pos = p })
    scans_stop {p} x =
        let b : TurnWithin (length s) q n (Stop p) = subst (TurnWithin (length s) q n) x v.within in
        let z : n - n ≡ 0 = omega arith in
        record { tells = rw z (sym (ends_in ∙ ap (λ (y : Told). then_shut (first_shut m s) (view n new y)) x)); ordered = omega arith; few = w.few; high = b }
