-- The run: stepping a fresh state until nothing comes gives all fences of a text, in their order. Assumes nothing.
-- The page: "The scan goes on from the span's end.", and shut out: "a scanner that yields its first span and then stops".
use Rattle.std.specs.Prelude.{◌≡◌, Bool, ◌⊎◌}
use Rattle.std.proofs.Math.Path.{refl, ap, fun_ext}
use Rattle.std.proofs.Common.{sym, ◌∙◌, inl, inr}
use Rattle.std.proofs.Math.Bool.{true, false}
use mathlib.Core.List.{List}
use Prim.Native.Nat.{ℕ, suc, ◌+◌, ◌≤◌, ◌<◌}
use native.Mathlib.Omega.{arith}
use Rattle.std.proofs.Math.Dec.{ltb}
use Rattle.std.proofs.Math.ListN.{length}
use borrow.Author.Tests.{lt-ltb, le-ltb, ltb-true, ltb-false}
use Rattle.search.specs.Promise.{Steps}
use Rattle.search.specs.Search.{is, find, first_place, Sought, line_start}
use Rattle.search.specs.SearchLaws.{decide, and_true, first_ge, first-at, sought}
use Rattle.lines.specs.Fences.{run_count}
use Rattle.common.specs.Refusals.{Outcome, span_values, span_back, told_span}
use Rattle.common.specs.Items.{step_for}
use Rattle.common.specs.ItemLaws.{step_taken}
use Rattle.common.specs.Turn.{Turn, go, stop, found, then_collect, first_turn, all_found, Step, drain, step_of}
use Rattle.common.specs.Turning.{Ahead, Adv}
use Rattle.common.specs.TurnLaws.{collect_stop, collect_found, collect_alike, drain-state, all_only}
use Rattle.fence.specs.Fence.{Fence, fresh, at, whole_run_end, run_line, after_run_line, begins, opens, closes, span_end, close_end, fence_at, next_at, next_fence, fences, open_turn, first_open, answer, state}
use Rattle.fence.specs.Steps.{Kept, told_step, stepped}
use Rattle.fence.specs.Laws.{begins_true, unlocks, unlocks-parts, first_gone, first_skip, first_miss, first_meet, Lies, fence_lies, turn_adv, turn_stop, turn_skip, turn-line}
use Rattle.fence.specs.declared.FenceIter.{FenceIter}
use Rattle.fence.specs.declared.FenceStep.{FenceStep}

-- ---- the next fence, by the place where it opens
module _ (g : FenceIter) (s : List ℕ) where
  next-is : (q p : ℕ) → first_place (opens g s) q (length s) ≡ p → p < length s → next_fence g s q ≡ found (fence_at g s p) (fence_at g s p).end
  unfolding next_fence
  next-is q p e h = rw (e, lt-ltb p (length s) h)

  next_none : (q : ℕ) → length s ≤ first_place (opens g s) q (length s) → next_fence g s q ≡ stop q
  unfolding next_fence
  next_none q h = rw (le-ltb (first_place (opens g s) q (length s)) (length s) h)

  -- from two places with the same next fence it is found alike
  next_alike : (q n : ℕ) → first_place (opens g s) q (length s) ≡ first_place (opens g s) n (length s) → (k : ℕ → List Fence) → then_collect k (next_fence g s q) ≡ then_collect k (next_fence g s n)
  unfolding next_fence
  next_alike q n e k = rw e (by (ltb (first_place (opens g s) n (length s)) (length s)) (first_place (opens g s) n (length s)))
    where
      by : (x : Bool) (p : ℕ) → then_collect k (next_at g s q x p) ≡ then_collect k (next_at g s n x p)
      by true p = refl
      by false p = refl

  opens-begins : (p : ℕ) → opens g s p ≡ true → begins g s p ≡ true
  unfolding opens
  opens-begins p e = (and_true (begins g s p) (unlocks g s p (whole_run_end g s p) (run_line g s p)) e).0

  next_adv : Adv Lies (next_fence g s) (length s)
  unfolding next_fence
  next_adv = record { ahead = λ q h. by q h (ltb (first_place (opens g s) q (length s)) (length s)) refl }
    where
      by : (q : ℕ) → q ≤ length s → (x : Bool) → ltb (first_place (opens g s) q (length s)) (length s) ≡ x → Ahead Lies q (length s) (next_at g s q x (first_place (opens g s) q (length s)))
      by q h true e =
          let p = first_place (opens g s) q (length s) in
          let l = ltb-true p (length s) e in
          let w = fence_lies g s p (begins_true g s p (opens-begins p (first-at (opens g s) q (length s) l))).1 in
          let m = first_ge (opens g s) q (length s) in
          (omega arith, omega arith, (omega arith, omega arith, omega arith))
      by q h false e = (omega arith, h)

  -- ---- the turns of the code find the same: between them no fence opens
  turn_keeps : (q : ℕ) → q ≤ length s → all_found (next_fence g s) (length s) q ≡ then_collect (all_found (next_fence g s) (length s)) (open_turn g s q)
  unfolding opens
  turn_keeps q h = by (find (is g.byte) s q) (sought (is g.byte) s q (find (is g.byte) s q) refl)
    where
      All : ℕ → List Fence
      All = all_found (next_fence g s) (length s)

      line : (p : ℕ) → Sought (is g.byte) s q p → p < length s → line_start g.eol s p ≡ true → (unlocks g s p (whole_run_end g s p) (run_line g s p) ≡ true) ⊎ (unlocks g s p (whole_run_end g s p) (run_line g s p) ≡ false)
          → All q ≡ then_collect All (open_turn g s q)
      line p hp l b (inl u) =
          collect_found next_adv h (next-is q p (first_meet g s (unlocks g s) (unlocks-parts g s) q p hp l b u) l)
          ∙ ap (then_collect All) (turn-line g s q p hp l true (record { answer = sym b }) refl (found (fence_at g s p) (fence_at g s p).end) (record { answer = rw u }))
      line p hp l b (inr u) =
          collect_alike next_adv h (omega arith) (next_alike q (after_run_line g s p) (first_miss g s (unlocks g s) (unlocks-parts g s) q p hp l u))
          ∙ ap (then_collect All) (turn-line g s q p hp l true (record { answer = sym b }) refl (go (after_run_line g s p)) (record { answer = rw u }))

      start : (p : ℕ) → Sought (is g.byte) s q p → p < length s → (line_start g.eol s p ≡ true) ⊎ (line_start g.eol s p ≡ false) → All q ≡ then_collect All (open_turn g s q)
      start p hp l (inl b) = line p hp l b (decide (unlocks g s p (whole_run_end g s p) (run_line g s p)))
      start p hp l (inr b) =
          collect_alike next_adv h (omega arith) (next_alike q (p + 1) (first_skip g s (unlocks g s) (unlocks-parts g s) q p hp l b))
          ∙ ap (then_collect All) (turn_skip g s q p hp l false (record { answer = sym b }) refl)

      text : (p : ℕ) → Sought (is g.byte) s q p → (ltb p (length s) ≡ true) ⊎ (ltb p (length s) ≡ false) → All q ≡ then_collect All (open_turn g s q)
      text p hp (inl x) = start p hp (ltb-true p (length s) x) (decide (line_start g.eol s p))
      text p hp (inr x) =
          let l = ltb-false p (length s) x in
          collect_stop next_adv h (next_none q (first_gone g s (unlocks g s) (unlocks-parts g s) q p hp l)) ∙ ap (then_collect All) (turn_stop g s q p hp l)

      by : (p : ℕ) → Sought (is g.byte) s q p → All q ≡ then_collect All (open_turn g s q)
      by p hp = text p hp (decide (ltb p (length s)))

  pub turns_find : (q : ℕ) → q ≤ length s → all_found (open_turn g s) (length s) q ≡ all_found (next_fence g s) (length s) q
  turns_find = all_only (turn_adv g s) (all_found (next_fence g s) (length s)) turn_keeps

-- ---- steps
-- what keeps the promise of `next` is the step
pub kept_step : (g : FenceIter) (s : List ℕ) (o : Outcome) (n : FenceIter) → length s ≤ 4294967295 → g.pos ≤ length s → Steps (answer g s) (state g s) o n → step_for span_back o.values n ≡ stepped g s
unfolding stepped answer state
kept_step g s o n fits inside = step_taken span_values span_back (λ f n. refl) at g s g.pos (first_open g s) inside fits o n

-- the place of a state does not change the turns
module _ (g : FenceIter) (s : List ℕ) (q : ℕ) where
  close_same : (count from : ℕ) → close_end (at g q) count s from ≡ close_end g count s from
  unfolding close_end closes begins
  close_same count from = by (ltb (first_place (closes g count s) from (length s)) (length s)) (first_place (closes g count s) from (length s))
    where
      by : (x : Bool) (p : ℕ) → span_end (at g q) s x p ≡ span_end g s x p
      by true p = refl
      by false p = refl

  turn-same : (n : ℕ) → open_turn (at g q) s n ≡ open_turn g s n
  unfolding open_turn
  turn-same n =
      let p = find (is g.byte) s n in
      rw (close_same (run_count p (whole_run_end g s p)) (after_run_line g s p))

  step_at : stepped (at g q) s ≡ step_of (at g) (first_turn (open_turn g s) (length s) q)
  unfolding stepped first_open
  step_at = ap (λ (step : ℕ → Turn Fence). step_of (at g) (first_turn step (length s) q)) (fun_ext turn-same)

-- ---- the run
-- from a state g within the text: as many steps as there are fences from its place on find them all; only states that differ from g
-- in their place, within the text, are stepped
module _ (g : FenceIter) (s : List ℕ) (n : ℕ) (inside : g.pos ≤ length s) (enough : length (all_found (next_fence g s) (length s) g.pos) ≤ n) where
  pub run_from : (next : FenceIter → Step Fence FenceIter) → ((q : ℕ) → q ≤ length s → next (at g q) ≡ stepped (at g q) s) → drain next n g ≡ all_found (next_fence g s) (length s) g.pos
  run_from next steps =
      let e = turns_find g s g.pos inside in
      drain-state (turn_adv g s) next (λ (x : FenceIter). x.pos) at g refl (λ q i. steps q i ∙ step_at g s q) n inside (rw e enough) ∙ e

module _ (byte min eol sep tab : ℕ) (s : List ℕ) (n : ℕ) (enough : length (fences (fresh byte min eol sep tab) s) ≤ n) where
  -- stepping a fresh state until nothing comes
  pub run : drain (λ h. stepped h s) n (fresh byte min eol sep tab) ≡ fences (fresh byte min eol sep tab) s
  unfolding fences
  run = run_from (fresh byte min eol sep tab) s n (omega arith) enough (λ h. stepped h s) (λ q i. refl)

  -- the same of any function that keeps the promise of `next`
  pub run_kept : (next : FenceIter → FenceStep) → ((q : ℕ) → q ≤ length s → Kept (at (fresh byte min eol sep tab) q) s (next (at (fresh byte min eol sep tab) q)))
      → length s ≤ 4294967295 → drain (λ h. told_step (next h)) n (fresh byte min eol sep tab) ≡ fences (fresh byte min eol sep tab) s
  unfolding fences
  run_kept next keeps fits =
      let g = fresh byte min eol sep tab in
      run_from g s n (omega arith) enough (λ h. told_step (next h)) (λ q i. kept_step (at g q) s (told_span (next (at g q)).found) (next (at g q)).next fits i (keeps q i))

-- one step more yields nothing
pub run_ends : (byte min eol sep tab : ℕ) (s : List ℕ) → drain (λ h. stepped h s) (suc (length (fences (fresh byte min eol sep tab) s))) (fresh byte min eol sep tab) ≡ fences (fresh byte min eol sep tab) s
run_ends byte min eol sep tab s = run byte min eol sep tab s (suc (length (fences (fresh byte min eol sep tab) s))) (omega arith)
