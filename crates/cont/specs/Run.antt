-- The run of the scanner: stepping a fresh state until none comes gives the frames of the text. Assumes nothing.
-- The page: "frames closing together come innermost first", and shut out: "a scanner that yields its first span and then stops".
use Rattle.std.specs.Prelude.{◌≡◌, true, false, ◌⊎◌, ltb, get_or}
use Rattle.std.proofs.Math.Path.{refl, ap}
use Rattle.std.proofs.Common.{sym, ◌∙◌, ⊎_elim, not-suc-le-zero, add-one, length-append, length-take, take-take, drop-cons, get_or-take, length-take-le}
use mathlib.Core.List.{List, [], ◌∷◌, ◌++◌, append-nil}
use Rattle.std.proofs.Math.Logic.{inl, inr}
use Prim.Native.Nat.{ℕ, zero, suc, ◌+◌, ◌-◌, ◌≤◌, ◌<◌, min}
use native.Mathlib.Omega.{arith}
use Rattle.std.proofs.Math.ListN.{length, take, drop, length-drop, length-replicate, drop_of_length-le}
use Rattle.std.proofs.Math.Seq.{take_all, drop-nil}
use borrow.Author.Tests.{ltb-true, ltb-false, lt-ltb, le-ltb}
use Rattle.search.specs.Promise.{Steps}
use Rattle.search.specs.Search.{is, holds, find, line_start, line_end, after_line}
use Rattle.search.specs.SearchLaws.{decide, find_ge, find_le, find_before, find_at, clash, holds_in, line_one, line-next}
use Rattle.common.specs.Refusals.{Outcome, span_back, told_span}
use Rattle.common.specs.Items.{step_for}
use Rattle.common.specs.ItemLaws.{both}
use Rattle.common.specs.Turn.{None, Step, yields, ends, then_drain, drain}
use Rattle.common.specs.declared.span.Span.{Span}
use Rattle.cont.specs.declared.Framing.{Framing}
use Rattle.cont.specs.declared.ContIter.{ContIter}
use Rattle.cont.specs.declared.ContStep.{ContStep}
use Rattle.cont.specs.Frames.{frame, line_marks, depth, frames}
use Rattle.common.specs.Entry.{put_at}
use Rattle.common.specs.EntryLaws.{length_put, put_front}
use Rattle.cont.specs.Cont.{fresh, framing_of, closed_frames, Stand, stand, FrameTurn, go, close, stop, kept, new_marks, close_from, open_with, turn_on_line, turn_with_open, turn_with_none, next_turn, Shut, then_shut, shut_within, first_shut, standing, drained, refilled, drained_or, drained_or_end, stepped, answer, state}
use Rattle.cont.specs.MarkLaws.{marks_take, marks_few, marks_none}
use Rattle.cont.specs.Steps.{Served, Kept, told_step}
use Rattle.cont.specs.TurnLaws.{closing-length}
use Rattle.cont.specs.StepLaws.{kept_step}
use Rattle.cont.specs.StackLaws.{restacked, opened, deeper, closed_at, Rest, opened-line, opened-same, opened-few, opened-stretch, Free, opened_free, closed_no_line, closed_line, closed_free, rest_skip, rest_at, rest_end, frames-rest}
use Rattle.cont.specs.FrameLaws.{frames_none}

-- the frames in the cells o are those in o' where the cells agree
closing_same : (o o' : List ℕ) (e k j : ℕ) → ((i : ℕ) → i < k + j → get_or o i 0 ≡ get_or o' i 0) → closed_frames o e k j ≡ closed_frames o' e k j
closing_same o o' e k zero h = refl
closing_same o o' e k (suc j) h =
    ap (λ (x : ℕ). frame x e ∷ closed_frames o e k j) (h (k + j) (omega arith)) ∙ ap (λ (l : List Span). frame (get_or o' (k + j) 0) e ∷ l) (closing_same o o' e k j (λ i l. h i (omega arith)))

-- ---- a scan whose open frames are o
pub record HoldsOpen (t : Stand) (o : List ℕ) : Type 0 where
  pub count : t.count ≡ length o
  pub cells : take t.count t.cells ≡ o
  pub long : length t.cells ≡ 32
  pub few : length o ≤ 32

module _ {t : Stand} {o : List ℕ} (w : HoldsOpen t o) where
  holds_kept : (p k : ℕ) → k ≤ length o → HoldsOpen (stand p t.cells k) (take k o)
  holds_kept p k h =
      record {
        count = sym (length-take-le k o h);
        cells = sym (take-take k t.count t.cells (omega (arith, w.count))) ∙ ap (take k) w.cells;
        long = w.long;
        few = omega (arith, length-take-le k o h, w.few);
      }

  holds_more : (p : ℕ) (l : List ℕ) → length o + length l ≤ 32 → HoldsOpen (stand p (put_at t.count l t.cells) (t.count + length l)) (o ++ l)
  holds_more p l h =
      record {
        count = omega (arith, w.count, length-append o l);
        cells = put_front t.count l t.cells (omega (arith, w.count, w.long)) ∙ ap (λ (x : List ℕ). x ++ l) w.cells;
        long = length_put t.count l t.cells ∙ w.long;
        few = omega (arith, length-append o l);
      }

  holds-closing : (e k : ℕ) → k ≤ length o → closed_frames t.cells e k (t.count - k) ≡ deeper o k e
  holds-closing e k h =
      closing_same t.cells o e k (t.count - k)
      (λ i l. sym (get_or-take t.count t.cells i 0 (omega (arith, w.count))) ∙ ap (λ (x : List ℕ). get_or x i 0) w.cells)
      ∙ ap (λ (n : ℕ). closed_frames o e k (n - k)) w.count

module _ (m : Framing) (s : List ℕ) (nests : m.cap ≤ 32) where
  -- where frames are open a scan stands at a line's start, or at the text's end
  abbrev StartsLine : ℕ → Type 0
  StartsLine q = (opened m s q ≡ []) ⊎ (q < length s → line_start m.eol s q ≡ true)

  -- the frames l that a scan has still to close: those from its place on, or none behind the text's end
  pub record Owes (t : Stand) (l : List Span) : Type 0 where
    pub held : List ℕ
    pub holds : HoldsOpen t held
    pub inside : t.pos ≤ length s
    pub owes : ((held ≡ opened m s t.pos) × StartsLine t.pos × (l ≡ Rest m s t.pos)) ⊎ ((t.pos ≡ length s) × (held ≡ []) × (l ≡ []))

  -- a turn from q that accounts for the frames l
  abbrev Owed : ℕ → List Span → FrameTurn → Type 0
  Owed q l (go t) = (q < t.pos) × Owes t l
  Owed q l (close x t) = (r : List Span) × (l ≡ x ++ r) × Owes t r × (0 < length x) × (length x ≤ 32)
  Owed q l (stop t) = l ≡ []

  -- a marker line
  line_owed : (q p : ℕ) (t : Stand) (o : List ℕ) (l : List Span) → q ≤ p → p < length s → line_start m.eol s p ≡ true → HoldsOpen t o → o ≡ opened m s p → l ≡ Rest m s p → Owed q l (turn_on_line m s p t.cells t.count)
  unfolding turn_on_line line_marks
  line_owed q p t o l h i st w e r =
      both (Owed q l) (ltb c n) (close_from m s p t.cells n c) (open_with m s p t.cells n (new_marks m s p n))
      (λ u.
      let v = ltb-true c n u in
      let k : c ≡ depth m s p = omega (arith, size) in
      let x : closed_frames t.cells p c (n - c) ≡ closed_at m s p = holds-closing w p c (omega (arith, w.count)) ∙ rw (k, e) (sym (closed_line m s p st)) in
      let none : drop (length o) (line_marks m s p) ≡ [] = drop_of_length-le (line_marks m s p) {i = length o} (omega (arith, w.count)) in (
        Rest m s a,
        r ∙ rest_at m s p a moves high within ∙ ap (λ (y : List Span). y ++ Rest m s a) (sym x),
        record {
          held = take c o;
          holds = holds_kept w a c (omega (arith, w.count));
          inside = high;
          owes = inl (rw (k, later, none) (sym (append-nil (take (depth m s p) o))), inr (line-next m.eol s p (omega arith)), refl);
        },
        omega (arith, closing-length t.cells p c (n - c)),
        omega (arith, closing-length t.cells p c (n - c), w.count, w.few),
      ))
      (λ u.
      let v = ltb-false c n u in
      let d : n ≤ depth m s p = omega (arith, size) in
      let z : length (opened m s p) - depth m s p ≡ 0 = omega (arith, w.count, ap length e) in
      let x : closed_at m s p ≡ [] = closed_line m s p st ∙ rw z in
      let all : take (depth m s p) o ≡ o = take_all (depth m s p) o (omega (arith, w.count)) in (
        omega (arith, moves),
        record {
          held = o ++ new_marks m s p n;
          holds = holds_more w a (new_marks m s p n) (omega (arith, length-drop n (line_marks m s p), w.count, marks_few m s (line_end m.eol s p) m.cap p));
          inside = high;
          owes = inl (rw (later, all, w.count), inr (line-next m.eol s p (omega arith)), r ∙ rest_at m s p a moves high within ∙ ap (λ (y : List Span). y ++ Rest m s a) x);
        },
      ))
    where
      n : ℕ
      n = t.count

      c : ℕ
      c = kept m s p n

      a : ℕ
      a = after_line m.eol s p

      moves : p < a
      moves = omega (arith, find_ge (is m.eol) s p)

      high : a ≤ length s
      high = omega arith

      within : None (closed_at m s) (suc p) a
      within k x y = closed_no_line m s k (line_one m.eol s p k x (omega arith))

      fits : n ≤ m.cap
      fits = omega (arith, w.count, ap length e, opened-few m s p)

      size : c ≡ min n (depth m s p)
      size = ap length (marks_take m s (line_end m.eol s p) n m.cap p fits) ∙ length-take n (line_marks m s p)

      later : opened m s a ≡ restacked o (line_marks m s p)
      later =
          opened-stretch m s (a - suc p) (suc p) a (omega (arith, moves)) (λ k y z. line_one m.eol s p k y (omega arith)) ∙ opened-line m s p st ∙ ap (λ (x : List ℕ). restacked x (line_marks m s p)) (sym e)

  -- up to the next marker byte there is none
  hit_free : (q : ℕ) → q ≤ length s → Free m s q (find (is m.byte) s q)
  hit_free q h k x y = holds_in (is m.byte) s k (omega (arith, find_le (is m.byte) s q h)) ∙ find_before (is m.byte) s q k x y

  -- a scan that stands elsewhere with the same frames
  holds-moved : {t : Stand} {o : List ℕ} (p : ℕ) → HoldsOpen t o → HoldsOpen (stand p t.cells t.count) o
  holds-moved p w = record { count = w.count; cells = w.cells; long = w.long; few = w.few }

  shut-all : {t : Stand} {o : List ℕ} (e : ℕ) → HoldsOpen t o → closed_frames t.cells e 0 t.count ≡ deeper o 0 e
  shut-all {t} {o} e w =
      let z : t.count - 0 ≡ t.count = omega arith in
      ap (closed_frames t.cells e 0) (sym z) ∙ holds-closing w e 0 (omega arith)

  -- one turn, from the place q with the frames o open; p is the next byte that may open one
  module _ (t : Stand) (l : List Span) (w : Owes t l) where
    abbrev q : ℕ
    q = t.pos

    abbrev p : ℕ
    p = find (is m.byte) s q

    abbrev o : List ℕ
    o = w.held

    -- a turn with frames open
    open_owed : 0 < t.count → Owed q l (turn_with_open m s q t.cells t.count)
    open_owed h = by w.owes
      where
        some : o ≡ [] → ⊥
        some e = omega (arith, w.holds.count, ap length e)

        begins : o ≡ opened m s q → StartsLine q → q < length s → line_start m.eol s q ≡ true
        begins e (inl z) i = absurd (some (e ∙ z))
        begins e (inr f) i = f i

        far : q < length s → holds (is m.byte) s q ≡ false → q < p
        far i u = ⊎_elim (λ (v : ltb q p ≡ true). ltb-true q p v) (λ v. absurd (near (omega (arith, ltb-false q p v, find_ge (is m.byte) s q)))) (decide (ltb q p))
          where
            near : p ≡ q → ⊥
            near z = clash (holds_in (is m.byte) s q i ∙ ap (λ (k : ℕ). is m.byte (get_or s k 0)) (sym z) ∙ find_at (is m.byte) s q (omega arith)) u

        size : (e : ℕ) → length (closed_frames t.cells e 0 t.count) ≡ t.count
        size e = closing-length t.cells e 0 t.count

        few : t.count ≤ 32
        few = omega (arith, w.holds.count, w.holds.few)

        by : ((o ≡ opened m s q) × StartsLine q × (l ≡ Rest m s q)) ⊎ ((q ≡ length s) × (o ≡ []) × (l ≡ [])) → Owed q l (turn_with_open m s q t.cells t.count)
        by (inr v) = absurd (some v.1)
        by (inl v) =
            both (Owed q l) (ltb q (length s)) _ _
            (λ a.
            let i = ltb-true q (length s) a in
            let b = begins v.0 v.1 i in
            both (Owed q l) (holds (is m.byte) s q) _ _
            (λ u. line_owed q q t o l (omega arith) i b w.holds v.0 v.2)
            (λ u.
            let f = far i u in
            let none = marks_none m s q u in
            let z : opened m s (suc q) ≡ [] = opened-line m s q b ∙ rw (none, drop-nil (length (opened m s q))) in
            let fr : Free m s (suc q) p = λ k x y. hit_free q w.inside k (omega arith) y in
            let y : opened m s p ≡ [] = opened_free m s (p - suc q) (suc q) p (omega arith) z fr in
            let c : closed_at m s q ≡ closed_frames t.cells q 0 t.count = closed_line m s q b ∙ rw (none, ← v.0) (sym (shut-all q w.holds)) in (
              Rest m s p,
              v.2 ∙ rest_at m s q p f (find_le (is m.byte) s q w.inside) (closed_free m s (suc q) p z fr) ∙ ap (λ (x : List Span). x ++ Rest m s p) c,
              record { held = []; holds = holds_kept w.holds p 0 (omega arith); inside = find_le (is m.byte) s q w.inside; owes = inl (sym y, inl y, refl) },
              omega (arith, size q),
              omega (arith, size q, few),
            )))
            (λ a.
            let n : q ≡ length s = omega (arith, ltb-false q (length s) a, w.inside) in (
              [],
              v.2 ∙ ap (Rest m s) n ∙ rest_end m s ∙ ap (λ (x : List ℕ). deeper x 0 (length s)) (ap (opened m s) (sym n) ∙ sym v.0) ∙ sym (shut-all (length s) w.holds) ∙ sym (append-nil (closed_frames t.cells (length s) 0 t.count)),
              record { held = []; holds = holds_kept w.holds q 0 (omega arith); inside = w.inside; owes = inr (n, refl, refl) },
              omega (arith, size (length s)),
              omega (arith, size (length s), few),
            ))

    -- a turn with none open
    fresh_owed : t.count ≤ 0 → Owed q l (turn_with_none m s q t.cells t.count p)
    fresh_owed h = by w.owes
      where
        lo : q ≤ p
        lo = find_ge (is m.byte) s q

        hi : p ≤ length s
        hi = find_le (is m.byte) s q w.inside

        empty : (x : List ℕ) → length x ≡ 0 → x ≡ []
        empty [] e = refl
        empty (y ∷ x) e = absurd (omega arith)

        none : o ≡ []
        none = empty o (omega (arith, w.holds.count))

        by : ((o ≡ opened m s q) × StartsLine q × (l ≡ Rest m s q)) ⊎ ((q ≡ length s) × (o ≡ []) × (l ≡ [])) → Owed q l (turn_with_none m s q t.cells t.count p)
        by (inr v) = rw (le-ltb p (length s) (omega (arith, lo, v.0))) v.2
        by (inl v) =
            let z : opened m s q ≡ [] = sym v.0 ∙ none in
            let fr = hit_free q w.inside in
            let y : opened m s p ≡ [] = opened_free m s (p - q) q p (omega (arith, lo)) z fr in
            let r : l ≡ Rest m s p = v.2 ∙ rest_skip m s q p lo hi (closed_free m s q p z fr) in
            both (Owed q l) (ltb p (length s)) _ _
            (λ a.
            let i = ltb-true p (length s) a in
            both (Owed q l) (line_start m.eol s p) _ _
            (λ u. line_owed q p t o l lo i u w.holds (none ∙ sym y) r)
            (λ u.
            let x : opened m s (suc p) ≡ [] = opened-same m s p u ∙ y in
            let n : p + 1 ≡ suc p = omega arith in (
              omega (arith, lo),
              record {
                held = o;
                holds = holds-moved (p + 1) w.holds;
                inside = omega arith;
                owes = inl (
                  none ∙ sym (rw n x),
                  inl (rw n x),
                  r ∙ rest_skip m s p (p + 1) (omega arith) (omega arith) (λ k b c. let d : k ≡ p = omega arith in rw d (closed_no_line m s p u)),
                );
              },
            )))
            (λ a.
            let n : p ≡ length s = omega (arith, ltb-false p (length s) a, hi) in
            r ∙ ap (Rest m s) n ∙ rest_end m s ∙ ap (λ (x : List ℕ). deeper x 0 (length s)) (ap (opened m s) (sym n) ∙ y))

  turn_owed : (t : Stand) (l : List Span) → Owes t l → Owed t.pos l (next_turn m s t)
  unfolding next_turn
  turn_owed t l w = both (Owed t.pos l) (ltb 0 t.count) _ _ (λ a. open_owed t l w (ltb-true 0 t.count a)) (λ a. fresh_owed t l w (ltb-false 0 t.count a))

  -- ---- the scan
  -- what is closed next, of the frames l: none of none, else the first of them, and the others are still owed
  abbrev Paid : List Span → Shut → Type 0
  Paid l x = ((x.closed ≡ []) × (l ≡ [])) ⊎ ((r : List Span) × (l ≡ x.closed ++ r) × Owes x.left r × (0 < length x.closed) × (length x.closed ≤ 32))

  pub shut-told : (f : ℕ) (t : Stand) (l : List Span) → Owes t l → length s - t.pos < f → Paid l (shut_within m s f t)
  unfolding shut_within
  shut-told zero t l w h = absurd (not-suc-le-zero h)
  shut-told (suc f) t l w h = by (shut-told f) (next_turn m s t) (turn_owed t l w)
    where
      by : ((u : Stand) (r : List Span) → Owes u r → length s - u.pos < f → Paid r (shut_within m s f u)) → (c : FrameTurn) → Owed t.pos l c → Paid l (then_shut (shut_within m s f) c)
      by ih (go u) a = ih u l a.1 (omega (arith, a.1.inside))
      by ih (close x u) a = inr a
      by ih (stop u) a = inl (refl, a)

-- ---- the state
-- a state that has the frames l to close once it has yielded what is pending
pub record SoundState (s : List ℕ) (g : ContIter) (l : List Span) : Type 0 where
  pub nests : g.cap ≤ 32
  pub room : length g.pending ≡ 32
  pub waits : g.pending_len ≤ 32
  pub drawn : g.pending_idx ≤ g.pending_len
  pub owes : Owes (framing_of g) s nests (standing g) l

-- the frames that it has still to yield
abbrev pub Left : ContIter → List Span → List Span
Left g l = drop g.pending_idx (take g.pending_len g.pending) ++ l

-- a step that yields the first of `all` and leaves a state with the others
abbrev Delivers : List ℕ → List Span → Step Span ContIter → Type 0
Delivers s all (yields f g) = (l : List Span) × (all ≡ f ∷ Left g l) × SoundState s g l
Delivers s all (ends g) = all ≡ []

module _ (s : List ℕ) where
  -- one pending frame taken
  drained_yields : (g : ContIter) (l : List Span) → SoundState s g l → g.pending_idx < g.pending_len → Delivers s (Left g l) (drained g)
  drained_yields g l w h =
      let i = g.pending_idx in
      let k = g.pending_len in
      let p = take k g.pending in (
        l,
        ap (λ (x : List Span). x ++ l)
            (drop-cons p i (frame 0 0) (omega (arith, length-take-le k g.pending (omega (arith, w.waits, w.room))))
            ∙ ap (λ (x : Span). x ∷ drop (suc i) p) (get_or-take k g.pending i (frame 0 0) h)
            ∙ ap (λ (x : ℕ). get_or g.pending i (frame 0 0) ∷ drop x p) (sym (add-one i))),
        record { nests = w.nests; room = w.room; waits = w.waits; drawn = omega arith; owes = w.owes },
      )

  step_yields : (g : ContIter) (l : List Span) → SoundState s g l → Delivers s (Left g l) (stepped g s)
  unfolding stepped
  step_yields g l w = by (decide (ltb i k))
    where
      i : ℕ
      i = g.pending_idx

      k : ℕ
      k = g.pending_len

      x : Shut
      x = first_shut (framing_of g) s (standing g)

      refill : ((x.closed ≡ []) × (l ≡ [])) ⊎ ((r : List Span) × (l ≡ x.closed ++ r) × Owes (framing_of g) s w.nests x.left r × (0 < length x.closed) × (length x.closed ≤ 32)) → Delivers s l (drained_or_end (refilled g x))
      refill (inl v) = rw v.0 v.1
      refill (inr v) =
          let z : length x.closed ≡ 0 + length x.closed = omega arith in
          let front : take (length x.closed) (put_at 0 x.closed g.pending) ≡ x.closed = ap (λ (n : ℕ). take n (put_at 0 x.closed g.pending)) z ∙ put_front 0 x.closed g.pending (omega (arith, w.room)) in
          let u : SoundState s (refilled g x) v.0 = record { nests = w.nests; room = length_put 0 x.closed g.pending ∙ w.room; waits = v.4; drawn = omega arith; owes = v.2 } in
          let e : l ≡ Left (refilled g x) v.0 = v.1 ∙ ap (λ (y : List Span). y ++ v.0) (sym front) in
          rw (lt-ltb 0 (length x.closed) v.3, e) (drained_yields (refilled g x) v.0 u v.3)

      by : (ltb i k ≡ true) ⊎ (ltb i k ≡ false) → Delivers s (Left g l) (drained_or g (drained_or_end (refilled g x)))
      by (inl u) = rw u (drained_yields g l w (ltb-true i k u))
      by (inr u) =
          let h = ltb-false i k u in
          let z : Left g l ≡ l = ap (λ (y : List Span). y ++ l) (drop_of_length-le (take k g.pending) {i = i} (omega (arith, length-take k g.pending))) in
          rw (u, z) (refill (shut-told (framing_of g) s w.nests (suc (length s)) (standing g) l w.owes (omega arith)))

-- such a state is served
sound_served : (s : List ℕ) → length s ≤ 4294967295 → (g : ContIter) (l : List Span) → SoundState s g l → Served g s
sound_served s h g l w =
    let o = w.owes.holds in
    record { short = h; inside = w.owes.inside; nests = w.nests; opens = omega (arith, o.count, o.few); waits = w.waits; drawn = w.drawn }

-- the first n steps from it yield the first n of its frames
drain-left : (s : List ℕ) (next : ContIter → Step Span ContIter) → ((g : ContIter) (l : List Span) → SoundState s g l → next g ≡ stepped g s) → (n : ℕ) (g : ContIter) (l : List Span) → SoundState s g l → drain next n g ≡ take n (Left g l)
unfolding drain
drain-left s next steps zero g l w = refl
drain-left s next steps (suc n) g l w = rw (steps g l w) (by (drain-left s next steps n) (stepped g s) (step_yields s g l w))
  where
    by : ((u : ContIter) (r : List Span) → SoundState s u r → drain next n u ≡ take n (Left u r)) → (c : Step Span ContIter) → Delivers s (Left g l) c → then_drain (drain next n) c ≡ take (suc n) (Left g l)
    by ih (yields f u) y = ap (λ (i : List Span). f ∷ i) (ih u y.0 y.2) ∙ ap (take (suc n)) (sym y.1)
    by ih (ends u) y = ap (take (suc n)) (sym y)

-- ---- the run
module _ (byte eol sep tab nest : ℕ) (s : List ℕ) where
  fresh_sound : SoundState s (fresh byte eol sep tab nest) (frames (framing_of (fresh byte eol sep tab nest)) s)
  unfolding opened
  fresh_sound =
      record {
        nests = omega arith;
        room = length-replicate 32 (frame 0 0);
        waits = omega arith;
        drawn = omega arith;
        owes =
            record {
              held = [];
              holds = record { count = refl; cells = refl; long = length-replicate {A = ℕ} 32 0; few = omega arith };
              inside = omega arith;
              owes = inl (refl, inl refl, frames-rest (framing_of (fresh byte eol sep tab nest)) s);
            };
      }

  -- the first n steps from a fresh state yield the first n frames
  pub run_first : (n : ℕ) → drain (λ h. stepped h s) n (fresh byte eol sep tab nest) ≡ take n (frames (framing_of (fresh byte eol sep tab nest)) s)
  run_first n = drain-left s (λ h. stepped h s) (λ g l w. refl) n (fresh byte eol sep tab nest) (frames (framing_of (fresh byte eol sep tab nest)) s) fresh_sound

  module _ (n : ℕ) (enough : length (frames (framing_of (fresh byte eol sep tab nest)) s) ≤ n) where
    -- stepping a fresh state until nothing comes
    pub run : drain (λ h. stepped h s) n (fresh byte eol sep tab nest) ≡ frames (framing_of (fresh byte eol sep tab nest)) s
    run = run_first n ∙ take_all n (frames (framing_of (fresh byte eol sep tab nest)) s) enough

    -- the same of any function that keeps the promise of `next`: `says` is what its answer says, `next` the state after it
    pub run_said : (says : ContIter → Outcome) (next : ContIter → ContIter) → ((g : ContIter) → Served g s → Steps (answer g s) (state g s) (says g) (next g)) → length s ≤ 4294967295
        → drain (λ h. step_for span_back (says h).values (next h)) n (fresh byte eol sep tab nest) ≡ frames (framing_of (fresh byte eol sep tab nest)) s
    run_said says next keeps fits =
        drain-left s (λ h. step_for span_back (says h).values (next h)) (λ g l w. let v = sound_served s fits g l w in kept_step g s (says g) (next g) v (keeps g v)) n (fresh byte eol sep tab nest)
        (frames (framing_of (fresh byte eol sep tab nest)) s) fresh_sound
        ∙ take_all n (frames (framing_of (fresh byte eol sep tab nest)) s) enough

    pub run_kept : (next : ContIter → ContStep) → ((g : ContIter) → Served g s → Kept g s (next g)) → length s ≤ 4294967295 → drain (λ h. told_step (next h)) n (fresh byte eol sep tab nest) ≡ frames (framing_of (fresh byte eol sep tab nest)) s
    run_kept next = run_said (λ h. told_span (next h).found) (λ h. (next h).next)

  -- one step more yields nothing
  pub run_ends : drain (λ h. stepped h s) (suc (length (frames (framing_of (fresh byte eol sep tab nest)) s))) (fresh byte eol sep tab nest) ≡ frames (framing_of (fresh byte eol sep tab nest)) s
  run_ends = run (suc (length (frames (framing_of (fresh byte eol sep tab nest)) s))) (omega arith)

  -- "Cap 0 opens nothing."
  pub run_none : (n : ℕ) → nest ≡ 0 → drain (λ h. stepped h s) n (fresh byte eol sep tab nest) ≡ []
  run_none n e =
      let z : frames (framing_of (fresh byte eol sep tab nest)) s ≡ [] = frames_none (framing_of (fresh byte eol sep tab nest)) s (omega arith) in
      run n (rw z (omega arith)) ∙ z
