-- Laws of texts that are too long for a line. Assumes nothing.
use Rattle.std.specs.Prelude.{◌≡◌, List, [], ◌∷◌, length, take, drop, set, replicate}
use Rattle.std.proofs.Math.Path.{refl, sym, ap}
use Rattle.std.proofs.Common.{◌∙◌, take_all}
use Prim.Native.Nat.{ℕ, suc, ◌+◌, ◌-◌, ◌%◌, ◌≤◌, ◌<◌, min}
use Rattle.std.proofs.Math.Numerals.{add-one}
use native.Mathlib.Omega.{arith}
use Rattle.std.proofs.Math.ListN.{get_or}
use Rattle.search.specs.Promise.{Gives}
use Rattle.stored.specs.Parts.{front}
use Rattle.stored.specs.PartLaws.{Fronts, fronts_first, fronts_again, fronts_all}
use Rattle.stored.specs.Long.{long_with_byte, with_run, in_runs, next_draw, draw_after, drawn_byte, drawn_at, drawn_text}
use Rattle.stored.specs.declared.long.Long.{Long}

-- ---- a run: a loop that has put k of its n bytes
module _ (now : Long) (b n k : ℕ) where
  pub run_again : (more : Long) → k < n → Gives (long_with_byte now b) more → with_run now b (n - k) ≡ with_run more b (n - (k + 1))
  unfolding with_run
  run_again more h g = let e : n - k ≡ suc (n - (k + 1)) = omega arith in rw e (ap (λ (t : Long). with_run t b (n - (k + 1))) (sym g.answer))

  pub run_over : n ≤ k → now ≡ with_run now b (n - k)
  unfolding with_run
  run_over h = let e : n - k ≡ 0 = omega arith in rw e

-- a loop that has so many bytes left
pub record Runs (t : Long) (b n : ℕ) (now : Long) (left : ℕ) : Type 0 where
  pub same : with_run t b n ≡ with_run now b left

module _ (t : Long) (b n : ℕ) where
  pub runs_first : Runs t b n t n
  runs_first = record { same = refl }

  pub runs_again : (now : Long) (left : ℕ) (more : Long) → 0 < left → Gives (long_with_byte now b) more → Runs t b n now left → Runs t b n more (left - 1)
  runs_again now left more h g w = record { same = let z : left - 0 ≡ left = omega arith in w.same ∙ rw z at (run_again now b left 0 more h g) }

  pub runs_all : (now : Long) (left : ℕ) → left ≤ 0 → Runs t b n now left → now ≡ with_run t b n
  runs_all now left h w = let z : left - 0 ≡ left = omega arith in rw z at (run_over now b left 0 h) ∙ sym w.same

  -- one that counts those that it has put
  pub counted_first : Runs t b n t (n - 0)
  counted_first = let z : n - 0 ≡ n = omega arith in rw z runs_first

  module _ (now : Long) (k : ℕ) (w : Runs t b n now (n - k)) where
    pub counted_again : (more : Long) → k < n → Gives (long_with_byte now b) more → Runs t b n more (n - (k + 1))
    counted_again more h g = let z : n - k - 1 ≡ n - (k + 1) = omega arith in rw z at (runs_again now (n - k) more (omega (arith, h)) g w)

    pub counted_over : n ≤ k → now ≡ with_run t b n
    counted_over h = runs_all now (n - k) (omega (arith, h)) w

-- ---- all runs: a loop that has those of a list left
pub pairs_again : (now : Long) (l : List ℕ) (more : Long) → 2 ≤ length l → Gives (with_run now (get_or l 0 0 % 256) (get_or l 1 0)) more
    → in_runs now l ≡ in_runs more (take (length l - 2) (drop 2 l))
unfolding in_runs
pairs_again now [] more h g = absurd (omega arith)
pairs_again now (b ∷ []) more h g = absurd (omega arith)
pairs_again now (b ∷ n ∷ l) more h g =
    let e : take (suc (suc (length l)) - 2) l ≡ l = take_all _ l (omega arith) in rw e (ap (λ (t : Long). in_runs t l) (sym g.answer))

pub pairs_over : (now : Long) (l : List ℕ) → length l < 2 → now ≡ in_runs now l
unfolding in_runs
pairs_over now [] h = refl
pairs_over now (b ∷ []) h = refl
pairs_over now (b ∷ n ∷ l) h = absurd (omega arith)

-- ---- a loop that has drawn the first i bytes
pub record Draws (alphabet : List ℕ) (d e : ℕ) (bytes : List ℕ) (last i : ℕ) : Type 0 where
  pub written : Fronts (drawn_at alphabet d) e 8200 bytes i
  pub here : last ≡ draw_after d i

module _ (alphabet : List ℕ) (d e : ℕ) where
  pub draws_first : Draws alphabet d e (replicate 8200 0) d 0
  unfolding draw_after
  draws_first = record { written = fronts_first (drawn_at alphabet d) e 8200; here = refl }

  module _ (bytes : List ℕ) (last i : ℕ) (w : Draws alphabet d e bytes last i) (len : ℕ) (g : e ≡ min len 8200) where
    pub draws_again : (x more : ℕ) → i < e → Gives (next_draw last) more → Gives (drawn_byte alphabet more) x → Draws alphabet d e (set bytes i x) more (i + 1)
    unfolding draw_after drawn_at
    draws_again x more h a k =
        let z : more ≡ draw_after d (suc i) = a.answer ∙ ap next_draw w.here in
        record {
          written = fronts_again (drawn_at alphabet d) e 8200 bytes i x h (omega (arith, g)) (record { answer = k.answer ∙ ap (drawn_byte alphabet) z }) w.written;
          here = z ∙ rw add-one;
        }

    pub draws_all : e ≤ i → record { bytes = bytes; last = last } ≡ drawn_text d alphabet len
    draws_all h =
        let z : i ≡ e = omega (arith, w.written.within) in
        let b : bytes ≡ front (drawn_at alphabet d) (min len 8200) 8200 = fronts_all (drawn_at alphabet d) e 8200 bytes i h w.written ∙ ap (λ (m : ℕ). front (drawn_at alphabet d) m 8200) g in
        let l : last ≡ draw_after d (min len 8200) = w.here ∙ ap (draw_after d) (z ∙ g) in
        simp (b, l)
