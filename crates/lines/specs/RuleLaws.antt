-- Laws of the table of fence rules: how a loop fills it, and what it says. Assumes nothing.
use Rattle.std.specs.Prelude.{◌≡◌, refl, true, List, ◌⊎◌, length, set, replicate}
use Rattle.std.proofs.Common.{sym, ◌∙◌, inl, inr}
use Rattle.std.proofs.Math.Path.{ap, fun_ext}
use Rattle.std.proofs.Math.Bool.{false}
use Prim.Native.Nat.{ℕ, ◌+◌, ◌-◌, ◌≤◌, ◌<◌}
use native.Mathlib.Omega.{arith}
use Rattle.std.proofs.Math.Dec.{ltb}
use Rattle.std.proofs.Math.ListN.{get_or}
use borrow.Author.Tests.{lt-ltb, le-ltb}
use Rattle.search.specs.Promise.{Gives}
use Rattle.search.specs.Search.{is, find}
use Rattle.search.specs.SearchLaws.{decide, is_yes, is_no, find_here, find-next, find_end}
use Rattle.common.specs.Rules.{on_byte, rule_index, has_rule, least_of}
use Rattle.common.specs.Sets.{Index}
use Rattle.common.specs.TableLaws.{Table, table_entry, table_start, table_set, table_same, table_is}
use Rattle.lines.specs.Fences.{rule_cell, fence_cell, fence_table, has_in, least_in}

-- ---- filled from the last rule to the first: what the rules from i on say of a byte
unfoldable pub cell_from : List ℕ → List ℕ → ℕ → ℕ → ℕ
cell_from bytes mins i b = rule_cell bytes mins (find (is b) bytes i)

pub record TableFilled (bytes mins fences : List ℕ) (i : ℕ) : Type 0 where
  pub within : i ≤ length bytes
  pub cells : Table 0 fences (cell_from bytes mins i)

module _ (bytes mins : List ℕ) where
  none : (k : ℕ) → cell_from bytes mins (length bytes) k ≡ 0
  unfolding cell_from
  none k = rw (find_end (is k) bytes (length bytes) (omega arith), le-ltb (length bytes) (length bytes) (omega arith))

  pub filled-first : TableFilled bytes mins (replicate 256 0) (length bytes)
  filled-first = record { within = omega arith; cells = table_start 0 (cell_from bytes mins (length bytes)) none }

  module _ (fences : List ℕ) (i : ℕ) (w : TableFilled bytes mins fences i) (h : 0 < i) where
    here : find (is (get_or bytes (i - 1) 0)) bytes (i - 1) ≡ i - 1
    here = find_here (is (get_or bytes (i - 1) 0)) bytes (i - 1) (omega (arith, w.within)) (is_yes (get_or bytes (i - 1) 0) (get_or bytes (i - 1) 0) refl)

    there : (k : ℕ) → (k ≡ get_or bytes (i - 1) 0 → ⊥) → find (is k) bytes (i - 1) ≡ find (is k) bytes i
    there k d =
        let z : i - 1 + 1 ≡ i = omega arith in
        find-next (is k) bytes (i - 1) (omega (arith, w.within)) (is_no k (get_or bytes (i - 1) 0) (λ e. d (sym e))) ∙ rw z

    inside : ltb (i - 1) (length bytes) ≡ true
    inside = lt-ltb (i - 1) (length bytes) (omega (arith, w.within))

    pub filled_again : (x n : ℕ) → Index (get_or bytes (i - 1) 0) x → Gives (get_or mins (i - 1) 0) n → TableFilled bytes mins (set fences x (n + 1)) (i - 1)
    unfolding cell_from
    filled_again x n d g = rw d.same (record {
      within = omega (arith, w.within);
      cells =
          table_set 0 fences (cell_from bytes mins i) (cell_from bytes mins (i - 1)) (get_or bytes (i - 1) 0) (n + 1) (omega (arith, d.same, d.below)) (simp (here, inside, ← g.answer))
          (λ k e. rw (there k e)) w.cells;
    })

  pub filled-all : (fences : List ℕ) (i : ℕ) → TableFilled bytes mins fences i → i ≤ 0 → fences ≡ fence_table bytes mins
  unfolding cell_from fence_table
  filled-all fences i w h =
      let z : i ≡ 0 = omega arith in
      table_is 0 fences (fence_cell bytes mins) (table_same 0 fences (cell_from bytes mins i) (fence_cell bytes mins) (λ k l. rw z) w.cells)

  -- ---- the table says what the columns say
  pub table_has : has_in (fence_table bytes mins) ≡ on_byte false (has_rule bytes)
  unfolding has_in fence_table
  table_has = fun_ext (λ b. ap (λ (f : ℕ → ℕ). ltb 0 (f b)) (table_entry 0 (fence_cell bytes mins)) ∙ by b (decide (ltb b 256)) (decide (has_rule bytes b)))
    where
      by : (b : ℕ) → (ltb b 256 ≡ true) ⊎ (ltb b 256 ≡ false) → (has_rule bytes b ≡ true) ⊎ (has_rule bytes b ≡ false) → ltb 0 (on_byte 0 (fence_cell bytes mins) b) ≡ on_byte false (has_rule bytes) b
      by b (inl u) (inl v) = simp (u, v) (lt-ltb 0 (get_or mins (rule_index bytes b) 0 + 1) (omega arith))
      by b (inl u) (inr v) = simp (u, v)
      by b (inr u) v = simp u

  pub table_least : least_in (fence_table bytes mins) ≡ on_byte 0 (least_of bytes mins)
  unfolding least_in fence_table
  table_least = fun_ext (λ b. ap (λ (f : ℕ → ℕ). f b - 1) (table_entry 0 (fence_cell bytes mins)) ∙ by b (decide (ltb b 256)) (decide (has_rule bytes b)))
    where
      by : (b : ℕ) → (ltb b 256 ≡ true) ⊎ (ltb b 256 ≡ false) → (has_rule bytes b ≡ true) ⊎ (has_rule bytes b ≡ false) → on_byte 0 (fence_cell bytes mins) b - 1 ≡ on_byte 0 (least_of bytes mins) b
      by b (inl u) (inl v) = simp (u, v) (let z : get_or mins (rule_index bytes b) 0 + 1 - 1 ≡ get_or mins (rule_index bytes b) 0 = omega arith in z)
      by b (inl u) (inr v) = simp (u, v)
      by b (inr u) v = simp u
