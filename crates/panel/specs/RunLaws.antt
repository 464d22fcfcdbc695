-- Runs of the scanners' entries: a host that makes a state by `new` and steps it until no value comes reads exactly the page's list. Assumes nothing.
-- The page: "each step takes a state and gives the answer with the next state", and shut out: "a scanner that yields its first span and then stops".
use Rattle.std.specs.Prelude.{◌≡◌, length, get_or, take, drop}
use Rattle.std.proofs.Math.Path.{refl, ap}
use Rattle.std.proofs.Common.{sym, subst, ◌∙◌}
use mathlib.Core.List.{List, [], ◌∷◌}
use Prim.Native.Nat.{ℕ, zero, suc, ◌≤◌}
use native.Mathlib.Omega.{arith}
use Rattle.std.proofs.Math.Seq.{take-append_seam}
use borrow.Author.Tests.{le-ltb, eq-eqb}
use Rattle.common.specs.Entry.{over}
use Rattle.common.specs.Refusals.{Outcome, span_values, span_back}
use Rattle.common.specs.Items.{said, answer_by, step_for}
use Rattle.common.specs.Turn.{Turn, go, stop, found, first_turn, then_drain, drain}
use Rattle.common.specs.Turning.{Last, Adv, Each}
use Rattle.common.specs.TurnLaws.{scan_last}
use Rattle.fence.specs.declared.FenceIter.{FenceIter}
use Rattle.fence.specs.Fence as fence
use Rattle.fence.specs.Laws.{turn_adv}
use Rattle.fence.specs.Run.{kept_step, run_from}
use Rattle.cells.specs.Bytes.{cells}
use Rattle.cells.specs.BackLaws.{Narrow, reply_back}
use Rattle.cells.specs.Reply.{fitted, written, Replied}
use Rattle.panel.specs.State.{Made, StateRuns, Stepper, step_answer, Stepped, fence_limits, fence_cells, fence_from, fence_stepper}
use Rattle.panel.specs.Back.{Small, Held, Holds, Few, values_in}
use Rattle.common.specs.EachLaws.{each_get_or}
use Rattle.panel.specs.BackLaws.{FenceHeld, made_back, stepped-back, place_inside, fence_small, fence_fresh, fence_next}

values-back : (run run' vs : List ℕ) → cells run' ≡ over (length vs ∷ vs) (cells run) → values_in run' ≡ vs
values-back run run' vs e = ap (λ (l : List ℕ). take (get_or l 0 0) (drop 1 l)) e ∙ take-append_seam vs (drop (suc (length vs)) (cells run))

-- an answer that is served where its values fit the run
fitted-served : (o : Outcome) (run : List ℕ) → o.number ≡ 0 → length (written o.values) ≤ length run → fitted o run ≡ o
unfolding fitted
fitted-served o run e h = rw (eq-eqb o.number 0 e, le-ltb (length run) (length (written o.values)) h) refl

-- values whose numbers have 32 bits, and for which a run has room
abbrev pub Fit : List ℕ → List ℕ → Type 0
Fit run vs = Narrow (length vs ∷ vs) × (length (written vs) ≤ length run)

-- ---- any scanner
module _ {G A : Type 0} (c : Stepper G) (small : Small c.limits) (back : List ℕ → A) (s run : List ℕ) (short : length s ≤ 4294967295) where
  abbrev StateHeld : G → Type 0
  StateHeld g = Held c.read c.show c.limits g

  abbrev RunHolds : List ℕ → G → Type 0
  RunHolds state g = Holds c.read c.show c.limits state g

  -- a state that is read back, and whose step is served with values that fit the answer run
  pub record StepReady (g : G) : Type 0 where
    pub held : Held c.read c.show c.limits g
    pub serves : (c.answer g s).number ≡ 0
    pub fit : Fit run (c.answer g s).values

  answer_held : (g : G) (state : List ℕ) → RunHolds state g → step_answer c s (record { state = state; answer = run }) ≡ c.answer g s
  unfolding step_answer
  answer_held g state w = rw (le-ltb 4294967295 (length s) short, w.readable, w.reads) refl

  -- an entry, by what it leaves of a state's run, what it leaves of the answer run, and what it returns
  module _ (P : G → Type 0) (ready : (g : G) → P g → StepReady g) (on : (g : G) → P g → P (c.next g s)) (after reply : List ℕ → List ℕ) (number : List ℕ → ℕ)
      (keeps : (state : List ℕ) → Stepped c s (record { state = state; answer = run }) (record { state = after state; answer = reply state }) (number state)) where
    hosted_step : (g : G) → P g → (state : List ℕ) → RunHolds state g → (values_in (reply state) ≡ (c.answer g s).values) × RunHolds (after state) (c.next g s)
    hosted_step g p state w =
        let r = ready g p in
        let e = answer_held g state w in
        let f : number state ≡ 0 = (keeps state).reply.number ∙ ap (λ (o : Outcome). (fitted o run).number) e ∙ ap (λ (o : Outcome). o.number) (fitted-served (c.answer g s) run r.serves r.fit.1) ∙ r.serves in
        let before : StateRuns = record { state = state; answer = run } in
        let then : StateRuns = record { state = after state; answer = reply state } in
        let d : Stepped c s before then 0 = subst (λ (k : ℕ). Stepped c s before then k) f (keeps state) in
        let v = reply_back {o = c.answer g s} r.fit.0 (subst (λ (o : Outcome). Replied o run (reply state) 0) e d.reply) in
        let h : StateHeld (c.next (c.read (cells state)) s) = subst (λ (k : G). StateHeld (c.next k s)) (sym w.reads) (ready (c.next g s) (on g p)).held in
        (values-back run (reply state) (c.answer g s).values v, subst (λ (k : G). RunHolds (after state) (c.next k s)) w.reads (stepped-back c small s before then h d))

    -- what a host reads in n steps from a run that holds a state is what n steps of that state yield
    pub hosted_run : (n : ℕ) (g : G) → P g → (state : List ℕ) → Holds c.read c.show c.limits state g → drain (λ r. step_for back (values_in (reply r)) (after r)) n state ≡ drain (λ k. step_for back (c.answer k s).values (c.next k s)) n g
    unfolding drain
    hosted_run zero g p state w = refl
    hosted_run (suc n) g p state w =
        let h = hosted_step g p state w in
        ap (λ (vs : List ℕ). then_drain (drain (λ r. step_for back (values_in (reply r)) (after r)) n) (step_for back vs (after state))) h.0 ∙ by (c.answer g s).values (hosted_run n (c.next g s) (on g p) (after state) h.1)
      where
        by : (vs : List ℕ) → drain (λ r. step_for back (values_in (reply r)) (after r)) n (after state) ≡ drain (λ k. step_for back (c.answer k s).values (c.next k s)) n (c.next g s)
            → then_drain (drain (λ r. step_for back (values_in (reply r)) (after r)) n) (step_for back vs (after state)) ≡ then_drain (drain (λ k. step_for back (c.answer k s).values (c.next k s)) n) (step_for back vs (c.next g s))
        by [] ih = refl
        by (x ∷ l) ih = ap (λ (r : List A). back (x ∷ l) ∷ r) ih

-- ---- a scan's answer
module _ {A : Type 0} {Lies : ℕ → ℕ → A → Type 0} {step : ℕ → Turn A} (values : A → List ℕ) (s : List ℕ) (adv : Adv Lies step (length s)) (wider : (q n m : ℕ) (a : A) → q ≤ n → Lies n m a → Lies q m a) (short : length s ≤ 4294967295) where
  -- what holds of no values and of those of each thing found holds of what is said
  pub said_has : (Q : List ℕ → Type 0) → Q [] → ((q n : ℕ) (a : A) → n ≤ length s → Lies q n a → Q (values a)) → (p : ℕ) → p ≤ length s → ((answer_by values s p (first_turn step (length s) p)).number ≡ 0) × Q (answer_by values s p (first_turn step (length s) p)).values
  said_has Q none some p h = rw (le-ltb 4294967295 (length s) short, le-ltb (length s) p h) (by (first_turn step (length s) p) (scan_last adv wider (suc (length s)) p h))
    where
      by : (t : Turn A) → Last Lies p (length s) t → ((said values t).number ≡ 0) × Q (said values t).values
      by (go n) l = absurd l
      by (stop v) l = (refl, none)
      by (found a n) l = (refl, some p n a l.1 l.2)

pub fit_each : (run vs : List ℕ) → length (written vs) ≤ length run → length vs ≤ 4294967295 → Each Few vs → Fit run vs
fit_each run vs h n v = (λ i j. omega (arith, each_get_or Few (length vs ∷ vs) 0 (n, v) (omega arith) i), h)

-- ---- the fence scanner
module _ (byte min eol sep tab : ℕ) (s run : List ℕ) (short : length s ≤ 4294967295) (room : 12 ≤ length run) where
  FenceIn : FenceIter → Type 0
  FenceIn g = FenceHeld g × (g.pos ≤ length s)

  fence_ready : (g : FenceIter) → FenceIn g → StepReady fence_stepper fence_small span_back s run short g
  unfolding FenceIn fence.answer fence.first_open
  fence_ready g p =
      let v = said_has span_values s (turn_adv g s) (λ q n m f h l. (omega arith, l.1, l.2)) short (Fit run) (fit_each run [] (omega arith) (omega arith) tt) (λ q n f h l. fit_each run (span_values f) room (omega arith) (omega arith, (omega arith, tt))) g.pos p.1 in
      record { held = p.0; serves = v.0; fit = v.1 }

  fence_on : (g : FenceIter) → FenceIn g → FenceIn (fence.state g s)
  unfolding FenceIn fence.state fence.first_open
  fence_on g p = (fence_next g s p.0, rw (le-ltb 4294967295 (length s) short, le-ltb (length s) g.pos p.1) (place_inside (turn_adv g s) g.pos p.1))

  -- a state run that `new` wrote, stepped by an entry that keeps its promise, gives the fences of the text
  pub fence_run : byte ≤ 255 → min ≤ 255 → eol ≤ 255 → sep ≤ 255 → tab ≤ 255 → (first state : List ℕ) → Made (fence_cells (fence.fresh byte min eol sep tab)) first state 0
      → (after reply : List ℕ → List ℕ) (number : List ℕ → ℕ) → ((state : List ℕ) → Stepped fence_stepper s (record { state = state; answer = run }) (record { state = after state; answer = reply state }) (number state))
      → (n : ℕ) → length (fence.fences (fence.fresh byte min eol sep tab) s) ≤ n → drain (λ r. step_for span_back (values_in (reply r)) (after r)) n state ≡ fence.fences (fence.fresh byte min eol sep tab) s
  unfolding FenceIn fence.fences
  fence_run a b c d e first state made after reply number keeps n enough =
      let g = fence.fresh byte min eol sep tab in
      let h = fence_fresh byte min eol sep tab a b c d e in
      hosted_run fence_stepper fence_small span_back s run short FenceIn fence_ready fence_on after reply number keeps n g (h, omega arith) state (made_back fence_from fence_cells fence_limits fence_small g h first state made)
      ∙ run_from g s n (omega arith) enough (λ k. step_for span_back (fence.answer k s).values (fence.state k s)) (λ q i. kept_step (fence.at g q) s (fence.answer (fence.at g q) s) (fence.state (fence.at g q) s) short i (record { answer = refl; next = refl }))
