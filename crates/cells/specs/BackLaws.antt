-- Laws of lists written as bytes: they are read back, and writing over a run's bytes is writing over its numbers. Assumes nothing.
-- The page: "there each number of a list is four bytes, low byte first."
use Rattle.std.specs.Prelude.{◌≡◌, refl, List, [], ◌∷◌, ◌++◌, map, true, false, ◌⊎◌, ℕ, zero, suc, ◌+◌, ◌-◌, ◌*◌, ◌/◌, ◌<◌, length, get_or, drop}
use Rattle.std.proofs.Common.{sym, ap, ◌∙◌, append-nil, append_assoc, inl, inr, zero-mul, suc-mul, arith, length-drop, drop-drop, eq-eqb, eqb-true}
use Rattle.std.proofs.Math.Nat.{sub-zero}
use Rattle.search.specs.SearchLaws.{decide}
use Rattle.common.specs.Entry.{flatten, rows, over}
use Rattle.common.specs.Refusals.{Outcome, served}
use Rattle.cells.specs.Bytes.{four, from_four, cells}
use Rattle.cells.specs.Reply.{fitted, answered, Replied}
use Rattle.cells.specs.ByteLaws.{four-back, length-four}

-- a list of numbers of 32 bits
abbrev pub Narrow : List ℕ → Type 0
Narrow l = (i : ℕ) → i < length l → get_or l i 0 < 4294967296

-- ---- read back
cells-next : (x : ℕ) (rest : List ℕ) → x < 4294967296 → cells (four x ++ rest) ≡ x ∷ cells rest
unfolding cells
cells-next x rest h =
    let size : length (four x ++ rest) / 4 ≡ suc (length rest / 4) = omega arith in
    ap (λ (n : ℕ). map from_four (rows 4 n (four x ++ rest))) size ∙ ap (λ (z : ℕ). z ∷ map from_four (rows 4 (length rest / 4) rest)) (four-back x h)

-- numbers written as bytes are the first that are read, whatever stands behind
pub cells-append : (l rest : List ℕ) → Narrow l → cells (flatten four l ++ rest) ≡ l ++ cells rest
cells-append [] rest h = refl
cells-append (x ∷ l) rest h =
    ap cells (append_assoc (four x) (flatten four l) rest)
    ∙ cells-next x (flatten four l ++ rest) (h 0 (omega arith))
    ∙ ap (λ (z : List ℕ). x ∷ z) (cells-append l rest (λ i j. h (suc i) (omega arith)))

-- a list is read back from its bytes
pub cells-four : (l : List ℕ) → Narrow l → cells (flatten four l) ≡ l
unfolding cells
cells-four l h = ap cells (sym (append-nil (flatten four l))) ∙ cells-append l [] h ∙ append-nil l

-- ---- written over a run
drop-rows : (w k n : ℕ) (l : List ℕ) → drop k (rows w n l) ≡ rows w (n - k) (drop (k * w) l)
drop-rows w zero n l = rw (zero-mul w, sub-zero n)
drop-rows w (suc k) zero l =
    let z : 0 - suc k ≡ 0 = omega arith in
    rw z
drop-rows w (suc k) (suc n) l =
    let z : suc n - suc k ≡ n - k = omega arith in
    let y : suc k * w ≡ w + k * w = omega (arith, suc-mul k w) in
    drop-rows w k n (drop w l) ∙ rw (z, y) (ap (rows w (n - k)) (drop-drop (k * w) w l))

drop-map : {A B : Type 0} (f : A → B) (k : ℕ) (l : List A) → drop k (map f l) ≡ map f (drop k l)
drop-map f zero l = refl
drop-map f (suc k) [] = refl
drop-map f (suc k) (x ∷ l) = drop-map f k l

-- the numbers behind the first k are those of the bytes behind the first four times k
pub cells-drop : (k : ℕ) (run : List ℕ) → cells (drop (k * 4) run) ≡ drop k (cells run)
unfolding cells
cells-drop k run =
    let size : length (drop (k * 4) run) / 4 ≡ length run / 4 - k = omega (arith, length-drop (k * 4) run) in
    ap (λ (n : ℕ). map from_four (rows 4 n (drop (k * 4) run))) size
    ∙ ap (map from_four) (sym (drop-rows 4 k (length run / 4) run))
    ∙ sym (drop-map from_four k (rows 4 (length run / 4) run))

-- writing a list's bytes over a run's front is writing the list over the run's numbers
pub cells_over : (l run : List ℕ) → Narrow l → cells (over (flatten four l) run) ≡ over l (cells run)
cells_over l run h =
    cells-append l (drop (length (flatten four l)) run) h
    ∙ ap (λ (n : ℕ). l ++ cells (drop n run)) (length-four l)
    ∙ ap (λ (z : List ℕ). l ++ z) (cells-drop (length l) run)

-- ---- answers
-- an entry that returns 0 has passed every test
pub reply_served : (o : Outcome) (run : List ℕ) → (fitted o run).number ≡ 0 → (served (fitted o run) ≡ true) × (o.number ≡ 0)
unfolding fitted
reply_served o run e = (eq-eqb (fitted o run).number 0 e, by (decide (served o)))
  where
    by : (served o ≡ true) ⊎ (served o ≡ false) → o.number ≡ 0
    by (inl u) = eqb-true o.number 0 u
    by (inr u) = rw u at e

-- the values of an answer are read back from the answer run: how many there are, and then these
pub reply_back : {o : Outcome} {run run' : List ℕ} → Narrow (length o.values ∷ o.values) → Replied o run run' 0 → cells run' ≡ over (length o.values ∷ o.values) (cells run)
unfolding answered
reply_back {o} {run} h w = ap cells (w.list ∙ rw (reply_served o run (sym w.number)).0) ∙ cells_over (length o.values ∷ o.values) run h
