-- Laws of where lines begin: the next line, what all lines together have, and that a line begins at each. Assumes nothing.
use Rattle.std.specs.Prelude.{◌≡◌, false, cond, ◌⊎◌, length}
use Rattle.std.proofs.Math.Path.{refl, sym, ap}
use Rattle.std.proofs.Common.{◌∙◌, inl, inr}
use Rattle.std.proofs.Math.Bool.{true}
use mathlib.Core.List.{List, [], ◌∷◌, ◌++◌, flat_map}
use Prim.Native.Nat.{ℕ, zero, suc, ◌+◌, ◌-◌, ◌≤◌, ◌<◌}
use native.Mathlib.Omega.{arith}
use Rattle.search.specs.Search.{is, line_start, line_end, next_line}
use Rattle.search.specs.SearchLaws.{decide, find_ge, line_one, line-next}
use Rattle.common.specs.Turn.{gather, between}
use Rattle.common.specs.TurnLaws.{between_none, between_skip, between-at}
use Rattle.common.specs.LineStarts.{start_here, starts_from, line_starts}

module _ (eol : ℕ) (s : List ℕ) where
  start_not : (k : ℕ) → line_start eol s k ≡ false → start_here eol s k ≡ []
  start_not k e = simp e

  start_is : (k : ℕ) → line_start eol s k ≡ true → start_here eol s k ≡ k ∷ []
  start_is k e = simp e

  -- ---- the line after the one that begins at a
  pub starts_last : (a : ℕ) → a ≤ length s → length s ≤ line_end eol s a + 1 → starts_from eol s a ≡ a ∷ []
  unfolding starts_from
  starts_last a h l =
      ap (λ (k : List ℕ). a ∷ k) (between_none (start_here eol s) (suc a) (length s) (λ k x y. start_not k (line_one eol s a k (omega arith) (omega arith))))

  pub starts_next : (a : ℕ) → a ≤ length s → line_end eol s a + 1 < length s → starts_from eol s a ≡ a ∷ starts_from eol s (line_end eol s a + 1)
  unfolding starts_from
  starts_next a h l =
      let e = line_end eol s a in
      let m = find_ge (is eol) s a in
      let z : next_line (length s) e ≡ e + 1 = omega arith in
      let y : line_start eol s (e + 1) ≡ true = rw z at (line-next eol s a h (omega arith)) in
      ap (λ (k : List ℕ). a ∷ k)
      (between_skip (start_here eol s) (suc a) (e + 1) (length s) (omega arith) (omega arith) (λ k x u. start_not k (line_one eol s a k (omega arith) (omega arith)))
      ∙ between-at (start_here eol s) (e + 1) (suc (e + 1)) (length s) ((e + 1) ∷ []) (omega arith) (omega arith) (start_is (e + 1) y) (λ k x u. absurd (omega arith)))

-- ---- what the lines have is what the places have at which a line begins
module _ {A : Type 0} (eol : ℕ) (s : List ℕ) (h : ℕ → List A) where
  -- what a place has
  abbrev pub on_start : ℕ → List A
  on_start k = cond (line_start eol s k) (h k) []

  flat_gather : (n a : ℕ) → flat_map h (gather (start_here eol s) n a) ≡ gather on_start n a
  unfolding gather flat_map
  flat_gather zero a = refl
  flat_gather (suc n) a = by (decide (line_start eol s a)) (flat_gather n (suc a))
    where
      by : (line_start eol s a ≡ true) ⊎ (line_start eol s a ≡ false) → flat_map h (gather (start_here eol s) n (suc a)) ≡ gather on_start n (suc a)
          → flat_map h (start_here eol s a ++ gather (start_here eol s) n (suc a)) ≡ on_start a ++ gather on_start n (suc a)
      by (inl u) ih = rw u (ap (λ (l : List A). h a ++ l) ih)
      by (inr u) ih = rw u ih

  pub flat_starts : 0 < length s → flat_map h (line_starts eol s) ≡ between on_start 0 (length s)
  unfolding starts_from flat_map line_start
  flat_starts p =
      ap (λ (l : List A). h 0 ++ l) (flat_gather (length s - 1) 1)
      ∙ sym (between-at on_start 0 1 (length s) (h 0) (omega arith) (omega arith) refl (λ k x u. absurd (omega arith)))
