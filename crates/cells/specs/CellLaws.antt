-- Laws of numbers read from a byte run, and of the loop that holds them to limits. Assumes nothing.
use Rattle.std.specs.Prelude.{◌≡◌, refl, Bool, true, false, ◌&&◌, ℕ, zero, suc, ◌+◌, ◌*◌, ◌/◌, ◌%◌, ◌≤◌, ◌<◌, T, leb, ltb, eqb, get_or}
use Rattle.std.proofs.Common.{sym, ◌∙◌, add-one}
use Rattle.std.proofs.Math.Bool.{and-true as with-true, and_assoc}
use mathlib.Core.List.{List, [], ◌∷◌}
use native.Mathlib.Omega.{arith}
use Rattle.std.proofs.Math.Dec.{leb→le, ltb→lt}
use Rattle.std.proofs.Math.ListN.{length, drop, get_or-map, get_or-eq_default, drop_of_length-le}
use Rattle.std.proofs.lemmas.List.{length-map}
use Rattle.std.proofs.Math.Seq.{drop-cons}
use borrow.Author.Tests.{leb-true, eq-eqb, ne_eqb, eqb-true}
use Rattle.search.specs.SearchLaws.{and_true}
use Rattle.search.specs.Promise.{Gives}
use Rattle.common.specs.Entry.{rows}
use Rattle.common.specs.EntryLaws.{rows_at, length-rows}
use Rattle.common.specs.Sets.{Index}
use Rattle.cells.specs.Bytes.{from_four, cells, within, readable}

pub length-cells : (run : List ℕ) → length (cells run) ≡ length run / 4
unfolding cells
length-cells run = length-map (rows 4 (length run / 4) run) from_four ∙ length-rows 4 (length run / 4) run

module _ (run : List ℕ) (k : ℕ) where
  -- a cell by its bytes
  pub cell_at : k < length run / 4 → get_or (cells run) k 0 ≡ get_or run (k * 4) 0 + get_or run (k * 4 + 1) 0 * 256 + get_or run (k * 4 + 2) 0 * 65536 + get_or run (k * 4 + 3) 0 * 16777216
  unfolding cells
  cell_at h =
      let n = length run / 4 in
      let z : k * 4 + 0 ≡ k * 4 = omega arith in
      get_or-map from_four (rows 4 n run) k []
      ∙ rw (rows_at 4 n k 0 run h (omega arith), rows_at 4 n k 1 run h (omega arith), rows_at 4 n k 2 run h (omega arith), rows_at 4 n k 3 run h (omega arith), z)

  pub cell-read : (a b c d : ℕ) → k < length run / 4 → Index (get_or run (k * 4) 0) a → Index (get_or run (k * 4 + 1) 0) b → Index (get_or run (k * 4 + 2) 0) c → Index (get_or run (k * 4 + 3) 0) d
      → a + b * 256 + c * 65536 + d * 16777216 ≡ get_or (cells run) k 0
  cell-read a b c d h x y z w = rw (x.same, y.same, z.same, w.same) (sym (cell_at h))

  pub cell_none : length run / 4 ≤ k → 0 ≡ get_or (cells run) k 0
  cell_none h = sym (get_or-eq_default (cells run) 0 {n = k} (omega (arith, length-cells run)))

  -- a cell that holds a byte has it as its low byte
  pub low_cell : k < length run / 4 → get_or (cells run) k 0 ≤ 255 → get_or run (k * 4) 0 ≡ get_or (cells run) k 0
  low_cell h l = omega (arith, cell_at h)

-- ---- limits
pub within-at : (limits l : List ℕ) (k : ℕ) → within limits l ≡ true → get_or l k 0 ≤ get_or limits k 0
unfolding within
within-at [] [] k e = omega arith
within-at [] (x ∷ l) k e = let z : ◌≡◌ {A = ℕ} 0 1 = cc in absurd (omega arith)
within-at (m ∷ limits) [] k e = let z : ◌≡◌ {A = ℕ} 0 1 = cc in absurd (omega arith)
within-at (m ∷ limits) (x ∷ l) zero e = leb-true x m (and_true (leb x m) (within limits l) e).0
within-at (m ∷ limits) (x ∷ l) (suc k) e = within-at limits l k (and_true (leb x m) (within limits l) e).1

module _ (limits run : List ℕ) where
  pub readable_size : (length run % 4 ≡ 0 → ⊥) → false ≡ readable limits run
  unfolding readable
  readable_size h = rw (ne_eqb (length run) (length limits * 4) (λ e. h (omega arith)))

  pub readable_count : (length run / 4 ≡ length limits → ⊥) → false ≡ readable limits run
  unfolding readable
  readable_count h = rw (ne_eqb (length run) (length limits * 4) (λ e. h (omega arith)))

  -- a loop that has held the first k cells to their limits; `fit` says whether they keep to them
  pub record Fitting (fit : Bool) (k : ℕ) : Type 0 where
    pub long : length run ≡ length limits * 4
    pub here : k ≤ length limits
    pub same : within limits (cells run) ≡ (fit && within (drop k limits) (drop k (cells run)))

  pub fitting_first : length run % 4 ≡ 0 → length run / 4 ≡ length limits → Fitting true 0
  fitting_first h e = record { long = omega arith; here = omega arith; same = refl }

  module _ (fit : Bool) (k : ℕ) (i : Fitting fit k) where
    pub fitting_again : (x : ℕ) → k < length limits → Gives (get_or (cells run) k 0) x → Fitting (fit && leb x (get_or limits k 0)) (k + 1)
    unfolding within
    fitting_again x h g =
        let rest = within (drop (suc k) limits) (drop (suc k) (cells run)) in
        record {
          long = i.long;
          here = omega arith;
          same =
              i.same ∙ rw (add-one k, drop-cons limits k 0 h, drop-cons (cells run) k 0 (omega (arith, length-cells run, i.long)), ← g.answer)
              (sym (and_assoc fit (leb x (get_or limits k 0)) rest));
        }

    pub fitting_end : length limits ≤ k → fit ≡ readable limits run
    unfolding readable within
    fitting_end h =
        let a : drop k limits ≡ [] = drop_of_length-le limits {i = k} h in
        let b : drop k (cells run) ≡ [] = drop_of_length-le (cells run) {i = k} (omega (arith, length-cells run, i.long)) in
        rw (eq-eqb (length run) (length limits * 4) i.long, i.same, a, b) (sym (with-true fit))

  pub readable_long : readable limits run ≡ true → length run ≡ length limits * 4
  unfolding readable
  readable_long e = eqb-true (length run) (length limits * 4) (and_true (eqb (length run) (length limits * 4)) (within limits (cells run)) e).0

  -- a field that is a byte
  pub byte_field : (k x : ℕ) → readable limits run ≡ true → T (ltb k (length limits)) → T (leb (get_or limits k 0) 255) → Gives (get_or run (k * 4) 0) x → x ≡ get_or (cells run) k 0
  unfolding readable
  byte_field k x e h l g =
      let w = within-at limits (cells run) k (and_true (eqb (length run) (length limits * 4)) (within limits (cells run)) e).1 in
      g.answer ∙ low_cell run k (omega (arith, readable_long e, ltb→lt k (length limits) h)) (omega (arith, leb→le (get_or limits k 0) 255 l))
