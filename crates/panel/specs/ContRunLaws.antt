-- Runs of the entries of the scanner of frames: a host that makes a state by `new` and steps it until no value comes reads exactly the page's frames. Assumes nothing.
-- The page: "each step takes a state and gives the answer with the next state".
use Rattle.std.specs.Prelude.{◌≡◌, refl, false, List, [], ℕ, ◌≤◌, length}
use Rattle.std.proofs.Common.{sym, ap, subst, ◌∙◌, arith, le-ltb}
use Rattle.common.specs.Refusals.{Outcome, span_values, span_back}
use Rattle.common.specs.Items.{step_for}
use Rattle.common.specs.Turn.{Step, yields, ends, drain}
use Rattle.common.specs.declared.span.Span.{Span}
use Rattle.cont.specs.declared.ContIter.{ContIter}
use Rattle.cont.specs.Cont as cont
use Rattle.cont.specs.Frames as frames
use Rattle.cont.specs.Steps.{Served}
use Rattle.cont.specs.Run.{run_said}
use Rattle.panel.specs.State.{Made, Stepped}
use Rattle.panel.specs.ContState.{cont_limits, cont_cells, cont_from, cont_stepper}
use Rattle.panel.specs.Back.{values_in}
use Rattle.panel.specs.BackLaws.{made_back}
use Rattle.panel.specs.ContBackLaws.{Good, SaysPending, cont_held, cont_small, cont_fresh, cont_steps}
use Rattle.panel.specs.RunLaws.{StepReady, Fit, fit_each, hosted_run}

-- a served state is not misplaced
placed : (g : ContIter) (s : List ℕ) → Served g s → cont.misplaced g s ≡ false
unfolding cont.misplaced_by
placed g s v = rw (le-ltb (length s) g.pos v.inside, le-ltb 32 g.cap v.nests, le-ltb 32 g.open_len v.opens, le-ltb 32 g.pending_len v.waits, le-ltb g.pending_len g.pending_idx v.drawn) refl

answer-is : (g : ContIter) (s : List ℕ) → Served g s → cont.answer g s ≡ cont.span_of (cont.stepped g s)
unfolding cont.answer
answer-is g s v = rw (le-ltb 4294967295 (length s) v.short, placed g s v) refl

state-is : (g : ContIter) (s : List ℕ) → Served g s → cont.state g s ≡ cont.state_of (cont.stepped g s)
unfolding cont.state
state-is g s v = rw (le-ltb 4294967295 (length s) v.short, placed g s v) refl

module _ (byte eol sep tab nest : ℕ) (s run : List ℕ) (short : length s ≤ 4294967295) (room : 12 ≤ length run) where
  says_fit : (e : Step Span ContIter) → SaysPending e → ((cont.span_of e).number ≡ 0) × Fit run (cont.span_of e).values
  says_fit (yields f g) v = (refl, fit_each run (span_values f) room (omega arith) (v.0, (v.1, tt)))
  says_fit (ends g) v = (refl, fit_each run [] (omega arith) (omega arith) tt)

  cont_ready : (g : ContIter) → Good s g → StepReady cont_stepper cont_small span_back s run short g
  cont_ready g p =
      let e = answer-is g s p.1 in
      let v = says_fit (cont.stepped g s) (cont_steps g s p.0 p.1).1 in
      record { held = cont_held g p.0; serves = ap (λ (o : Outcome). o.number) e ∙ v.0; fit = subst (λ (o : Outcome). Fit run o.values) (sym e) v.1 }

  cont_on : (g : ContIter) → Good s g → Good s (cont.state g s)
  cont_on g p = subst (Good s) (sym (state-is g s p.1)) (cont_steps g s p.0 p.1).0

  -- a state run that `new` wrote, stepped by an entry that keeps its promise, gives the frames of the text
  pub cont_run : byte ≤ 255 → eol ≤ 255 → sep ≤ 255 → tab ≤ 255 → (first state : List ℕ) → Made (cont_cells (cont.fresh byte eol sep tab nest)) first state 0
      → (after reply : List ℕ → List ℕ) (number : List ℕ → ℕ) → ((state : List ℕ) → Stepped cont_stepper s (record { state = state; answer = run }) (record { state = after state; answer = reply state }) (number state))
      → (n : ℕ) → length (frames.frames (cont.framing_of (cont.fresh byte eol sep tab nest)) s) ≤ n → drain (λ r. step_for span_back (values_in (reply r)) (after r)) n state ≡ frames.frames (cont.framing_of (cont.fresh byte eol sep tab nest)) s
  cont_run a b c d first state made after reply number keeps n enough =
      let g = cont.fresh byte eol sep tab nest in
      let h = cont_fresh byte eol sep tab nest a b c d in
      let v : Served g s = record { short = short; inside = omega arith; nests = omega arith; opens = omega arith; waits = omega arith; drawn = omega arith } in
      hosted_run cont_stepper cont_small span_back s run short (Good s) cont_ready cont_on after reply number keeps n g (h, v) state (made_back cont_from cont_cells cont_limits cont_small g (cont_held g h) first state made)
      ∙ run_said byte eol sep tab nest s n enough (λ k. cont.answer k s) (λ k. cont.state k s) (λ k u. record { answer = refl; next = refl }) short
