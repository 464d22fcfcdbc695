-- What the frames' definition says: a frame's line and its lasting, and what the cap does. Assumes nothing.
use Rattle.std.specs.Prelude.{◌≡◌, true, false, ◌⊎◌, ltb, length}
use Rattle.std.proofs.Math.Path.{refl, sym, ap}
use Rattle.std.proofs.Common.{◌∙◌, inl, inr, ⊎_elim}
use mathlib.Core.List.{List, [], ◌∷◌}
use Prim.Native.Nat.{ℕ, zero, suc, ◌+◌, ◌≤◌, ◌<◌, min}
use native.Mathlib.Omega.{arith}
use borrow.Author.Tests.{ltb-true, ltb-false}
use Rattle.search.specs.Search.{line_start}
use Rattle.search.specs.SearchLaws.{decide, clash}
use Rattle.common.specs.TurnLaws.{between_none}
use Rattle.cont.specs.declared.Framing.{Framing}
use Rattle.cont.specs.Frames.{depth, marker, or_else, open_start, ending, frames}
use Rattle.cont.specs.Cont.{fresh}
use Rattle.cont.specs.StackLaws.{open_start_same, open_start_ended, open_start_goes}

-- the frame at depth d that starts at x and is open just before n: a line begins it at its d-th marker, before that line no frame at this depth was open, and each line from there on up to n is of that depth or more
pub record Spans (m : Framing) (s : List ℕ) (d x n : ℕ) : Type 0 where
  pub line : ℕ
  pub before : line < n
  pub begins : line_start m.eol s line ≡ true
  pub starts : x ≡ marker m s d line
  pub shut : open_start m s d line ≡ []
  pub lasts : (k : ℕ) → line ≤ k → k < n → line_start m.eol s k ≡ true → d ≤ depth m s k

module _ (m : Framing) (s : List ℕ) where
  no_head : {P : Type 0} (x : ℕ) (l : List ℕ) → ◌≡◌ {A = List ℕ} [] (x ∷ l) → P
  no_head x l e = absurd (let z : ◌≡◌ {A = ℕ} 0 1 = cc in omega arith)

  head_same : (x y : ℕ) (l r : List ℕ) → ◌≡◌ {A = List ℕ} (x ∷ l) (y ∷ r) → x ≡ y
  head_same x y l r e = cc

  -- one place further on
  longer : {d x a : ℕ} → Spans m s d x a → (line_start m.eol s a ≡ true → d ≤ depth m s a) → Spans m s d x (suc a)
  longer {d} {x} {a} w f =
      record {
        line = w.line;
        before = omega (arith, w.before);
        begins = w.begins;
        starts = w.starts;
        shut = w.shut;
        lasts = λ k i j t. ⊎_elim (λ (z : ltb k a ≡ true). w.lasts k i (ltb-true k a z) t) (λ z. let e : k ≡ a = omega (arith, ltb-false k a z) in rw e (f (rw e at t))) (decide (ltb k a));
      }

  pub open_start_spans : (d n x : ℕ) (l : List ℕ) → open_start m s d n ≡ x ∷ l → Spans m s d x n
  unfolding open_start
  open_start_spans d zero x l e = no_head x l e
  open_start_spans d (suc a) x l e = by (decide (line_start m.eol s a)) (decide (ltb (depth m s a) d)) (open_start m s d a) refl (open_start_spans d a)
    where
      by : (line_start m.eol s a ≡ true) ⊎ (line_start m.eol s a ≡ false) → (ltb (depth m s a) d ≡ true) ⊎ (ltb (depth m s a) d ≡ false) → (o : List ℕ) → open_start m s d a ≡ o
          → ((y : ℕ) (r : List ℕ) → open_start m s d a ≡ y ∷ r → Spans m s d y a) → Spans m s d x (suc a)
      by (inr u) v o q ih = longer (ih x l (sym (open_start_same m s d a u) ∙ e)) (λ t. absurd (clash t u))
      by (inl u) (inl v) o q ih = no_head x l (sym (open_start_ended m s d a u v) ∙ e)
      by (inl u) (inr v) [] q ih =
          let h = ltb-false (depth m s a) d v in
          record {
            line = a;
            before = omega arith;
            begins = u;
            starts = sym (head_same _ x [] l (sym (open_start_goes m s d a u v ∙ ap (λ (i : List ℕ). or_else i (marker m s d a)) q) ∙ e));
            shut = q;
            lasts = λ k i j t. let z : k ≡ a = omega arith in rw z h;
          }
      by (inl u) (inr v) (y ∷ r) q ih =
          let f = head_same y x r l (sym (open_start_goes m s d a u v ∙ ap (λ (i : List ℕ). or_else i (marker m s d a)) q) ∙ e) in
          longer (rw f at (ih y r q)) (λ t. ltb-false (depth m s a) d v)

-- "Cap 0 opens nothing."
pub frames_none : (m : Framing) (s : List ℕ) → m.cap ≡ 0 → frames m s ≡ []
unfolding frames ending
frames_none m s e = between_none (λ n. ending m s n m.cap) 0 (length s + 1) (λ k h l. ap (ending m s k) e)

-- a nest number over 32 acts as 32
pub fresh-over : (byte eol sep tab nest : ℕ) → 32 ≤ nest → fresh byte eol sep tab nest ≡ fresh byte eol sep tab 32
fresh-over byte eol sep tab nest h =
    let z : min nest 32 ≡ 32 = omega arith in
    rw z
