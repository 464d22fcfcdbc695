-- Laws of the step, the rules of the functions that make it, and that its promise leaves one result. Assumes nothing.
use Rattle.std.specs.Prelude.{◌≡◌, refl, List, Bool, true, false, ◌||◌, ℕ, ◌-◌, ◌≤◌, ◌<◌, min, ltb, length, replicate, Err, None, Ok}
use Rattle.std.proofs.Common.{sym, ap, ◌∙◌}
use borrow.Author.Tests.{lt-ltb, le-ltb, ltb-false}
use Rattle.search.specs.Promise.{Gives, Steps, steps_unique}
use Rattle.common.specs.Refusals.{Outcome, told_span, span_back}
use Rattle.common.specs.Items.{step_for}
use Rattle.common.specs.RefusalLaws.{span_unique}
use Rattle.search.specs.SearchLaws.{neither}
use Rattle.common.specs.Turn.{Step, yields, ends}
use Rattle.common.specs.declared.span.Span.{Span}
use Rattle.common.specs.declared.refusal.Refusal.TheVariants.{TextTooLong, PlaceOutside}
use Rattle.cont.specs.declared.Framing.{Framing}
use Rattle.cont.specs.declared.Closed.{Closed}
use Rattle.cont.specs.declared.ContIter.{ContIter}
use Rattle.cont.specs.declared.ContStep.{ContStep}
use Rattle.cont.specs.Frames.{frame}
use Rattle.common.specs.Entry.{put_at}
use Rattle.cont.specs.Cont.{Counts, framing_of, closed_frames, first_shut, standing, changed, drained, drained_or_end, stepped, span_of, state_of, misplaced_by, misplaced, answer, state, fresh}
use Rattle.cont.specs.Steps.{closed_view, Scanned, Served, Kept}
use Rattle.cont.specs.TurnLaws.{closing-length}

-- ---- the tests of a state, one behind the other: a test that holds is the answer, else the next is
pub or_holds : {x t : Bool} (y : Bool) → x ≡ true → t ≡ x → t ≡ (x || y)
or_holds y e f = rw e (f ∙ e)

pub or_next : {x y t : Bool} → x ≡ false → t ≡ y → t ≡ (x || y)
or_next e f = rw e f

module _ (g : ContIter) (s : List ℕ) (a b c : Bool) (ea : a ≡ (ltb (length s) g.pos || ltb 32 g.cap)) (eb : b ≡ (a || ltb 32 g.open_len)) (ec : c ≡ (b || ltb 32 g.pending_len)) where
  tests : misplaced g s ≡ (c || ltb g.pending_len g.pending_idx)
  unfolding misplaced_by
  tests = rw (ec, eb, ea)

  pub misplaced_before : c ≡ true → c ≡ misplaced g s
  misplaced_before e = or_holds (ltb g.pending_len g.pending_idx) e refl ∙ sym tests

-- the last test
pub misplaced_last : (c : Counts) → c.pos ≤ c.len → c.cap ≤ 32 → c.open_len ≤ 32 → c.pending_len ≤ 32 → Gives (misplaced_by c) (ltb c.pending_len c.pending_idx)
unfolding misplaced_by
misplaced_last c inside nests opens waits = record { answer = simp (le-ltb c.len c.pos inside, le-ltb 32 c.cap nests, le-ltb 32 c.open_len opens, le-ltb 32 c.pending_len waits) }

-- the state that the code has once the closed frames r, which are p, are pending, with the cells o
abbrev filled : ContIter → Closed → List ℕ → List Span → ContIter
filled g r o p = changed g (record { pos = r.pos; «open» = o; open_len = r.from; pending = p; pending_len = r.held - r.from; pending_idx = 0 })

module _ (g : ContIter) (s : List ℕ) where
  pub served : {y : Bool} → y ≡ false → Gives (misplaced g s) y → length s ≤ 4294967295 → Served g s
  unfolding misplaced_by
  served t a h =
      let b = neither _ _ (sym a.answer ∙ t) in
      let c = neither _ _ b.0 in
      let d = neither _ _ c.0 in
      let e = neither _ _ d.0 in
      record {
        short = h;
        inside = ltb-false (length s) g.pos e.0;
        nests = ltb-false 32 g.cap e.1;
        opens = ltb-false 32 g.open_len d.1;
        waits = ltb-false 32 g.pending_len c.1;
        drawn = ltb-false g.pending_len g.pending_idx b.1;
      }

  unrefused : Served g s → misplaced g s ≡ false
  unrefused v =
      sym (misplaced_last _ v.inside v.nests v.opens v.waits).answer
      ∙ le-ltb g.pending_len g.pending_idx v.drawn

  -- ---- the step, by the ways that it takes
  pub step_drains : {x : Outcome} {n : ContIter} → g.pending_idx < g.pending_len → Steps (span_of (drained g)) (state_of (drained g)) x n → Steps (span_of (stepped g s)) (state_of (stepped g s)) x n
  unfolding stepped
  step_drains h w = record { answer = rw (lt-ltb g.pending_idx g.pending_len h) w.answer; next = rw (lt-ltb g.pending_idx g.pending_len h) w.next }

  -- what the scan is asked for
  pub framed : {m : Framing} → Gives (framing_of g) m → Served g s → m.cap ≤ 32
  framed a v = rw a.answer v.nests

  module _ {o : List ℕ} {r : Closed} {p : List Span} {m : Framing} (h : g.pending_len ≤ g.pending_idx) (a : Gives (framing_of g) m) (w : Scanned (first_shut m s (standing g)) (length s) o r) (f : Gives (put_at 0 (closed_frames o r.end r.from (r.held - r.from)) g.pending) p) where
    refills : stepped g s ≡ drained_or_end (filled g r o p)
    unfolding stepped
    refills =
        let t : closed_view o r ≡ first_shut (framing_of g) s (standing g) = w.tells ∙ ap (λ (m : Framing). first_shut m s (standing g)) a.answer in
        rw (le-ltb g.pending_idx g.pending_len h, ← t, f.answer) (ap (λ (k : ℕ). drained_or_end (changed g (record { pos = r.pos; «open» = o; open_len = r.from; pending = put_at 0 (closed_frames o r.end r.from (r.held - r.from)) g.pending; pending_len = k; pending_idx = 0 }))) (closing-length o r.end r.from (r.held - r.from)))

    pub step_closes : {x : Outcome} {n : ContIter} → 0 < r.held - r.from → Steps (span_of (drained (filled g r o p))) (state_of (drained (filled g r o p))) x n → Steps (span_of (stepped g s)) (state_of (stepped g s)) x n
    step_closes i v =
        let e : stepped g s ≡ drained (filled g r o p) = rw (refills, lt-ltb 0 (r.held - r.from) i) in
        record { answer = rw e v.answer; next = rw e v.next }

    pub step_ends : r.held - r.from ≤ 0 → Steps (span_of (stepped g s)) (state_of (stepped g s)) (told_span (Ok None)) (filled g r o p)
    step_ends i =
        let e : stepped g s ≡ ends (filled g r o p) = rw (refills, le-ltb 0 (r.held - r.from) i) in
        record { answer = rw e; next = rw e }

  -- ---- the entry
  pub next_long : 4294967295 < length s → Steps (answer g s) (state g s) (told_span (Err TextTooLong)) g
  unfolding answer state
  next_long h = record { answer = rw (lt-ltb 4294967295 (length s) h); next = rw (lt-ltb 4294967295 (length s) h) }

  module _ (h : length s ≤ 4294967295) {y : Bool} where
    pub next-misplaced : y ≡ true → Gives (misplaced g s) y → Steps (answer g s) (state g s) (told_span (Err PlaceOutside)) g
    unfolding answer state
    next-misplaced t a =
        record { answer = rw (le-ltb 4294967295 (length s) h, ← a.answer, t); next = rw (le-ltb 4294967295 (length s) h, ← a.answer, t) }

    pub next-served : {x : Outcome} {n : ContIter} → y ≡ false → Gives (misplaced g s) y → Steps (span_of (stepped g s)) (state_of (stepped g s)) x n → Steps (answer g s) (state g s) x n
    unfolding answer state
    next-served t a w =
        record { answer = rw (le-ltb 4294967295 (length s) h, ← a.answer, t) w.answer; next = rw (le-ltb 4294967295 (length s) h, ← a.answer, t) w.next }

-- ---- a fresh state
pub fresh-given : (byte eol sep tab nest cap : ℕ) → Gives (min nest 32) cap → Gives (fresh byte eol sep tab nest) (record { byte = byte; eol = eol; sep = sep; tab = tab; cap = cap; pos = 0; «open» = replicate 32 0; open_len = 0; pending = replicate 32 (frame 0 0); pending_len = 0; pending_idx = 0 })
fresh-given byte eol sep tab nest cap g = record { answer = rw g.answer }

-- ---- two results of a step that keep its promise are one
pub next_unique : (g : ContIter) (s : List ℕ) (r r' : ContStep) → Kept g s r → Kept g s r' → (r.found ≡ r'.found) × (r.next ≡ r'.next)
next_unique g s r r' w w' = (span_unique {o = answer g s} (record { answer = w.answer }) (record { answer = w'.answer }), (steps_unique w w').1)

-- ---- what keeps the promise for a state that is served is the step
pub kept_step : (g : ContIter) (s : List ℕ) (o : Outcome) (n : ContIter) → Served g s → Steps (answer g s) (state g s) o n → step_for span_back o.values n ≡ stepped g s
unfolding answer state
kept_step g s o n v w = by (stepped g s) (simp (short, unrefused g s v) at w.answer) (simp (short, unrefused g s v) at w.next)
  where
    short : ltb 4294967295 (length s) ≡ false
    short = le-ltb 4294967295 (length s) v.short

    by : (c : Step Span ContIter) → o ≡ span_of c → n ≡ state_of c → step_for span_back o.values n ≡ c
    by (yields f h) e m = ap (λ (o : Outcome). step_for span_back o.values n) e ∙ ap (yields f) m
    by (ends h) e m = ap (λ (o : Outcome). step_for span_back o.values n) e ∙ ap ends m
