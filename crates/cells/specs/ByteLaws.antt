-- Laws of numbers as bytes: four for each, what is laid over a run, and that a number is read back. Assumes nothing.
use Rattle.std.specs.Prelude.{◌≡◌, true, false, ◌⊎◌, eqb, length, get_or, take, set}
use Rattle.std.proofs.Math.Path.{refl, ap}
use Rattle.std.proofs.Common.{sym, ◌∙◌, inl, inr, div-add-mod', mod-eq_of_lt, add-one, take-suc, take_all, length-take-le}
use mathlib.Core.List.{List, [], ◌∷◌, ◌++◌, append-nil, append_assoc}
use Prim.Native.Nat.{ℕ, zero, suc, ◌+◌, ◌*◌, ◌/◌, ◌%◌, ◌≤◌, ◌<◌}
use Rattle.std.proofs.Math.Nat.{div-div-eq-div-mul}
use native.Mathlib.Omega.{arith}
use borrow.Author.Tests.{eq-eqb, ne_eqb, eqb-true, eqb-false}
use Rattle.search.specs.SearchLaws.{decide}
use Rattle.common.specs.Entry.{flatten, put_at}
use Rattle.common.specs.EntryLaws.{length-flatten, length_put, put_append, put_front, put_four}
use Rattle.common.specs.Rules.{tabulate}
use Rattle.common.specs.TableLaws.{length-tabulate}
use Rattle.common.specs.Sets.{Index}
use Rattle.cells.specs.Bytes.{four, from_four}
use Rattle.cells.specs.Reply.{LaidAt}

-- ---- four bytes for each number
module _ (len count : ℕ) where
  pub fourfold_count : (len / 4 ≡ count → ⊥) → false ≡ eqb len (count * 4)
  fourfold_count h = sym (ne_eqb len (count * 4) (λ e. h (omega arith)))

  pub fourfold-rest : len / 4 ≡ count → eqb (len % 4) 0 ≡ eqb len (count * 4)
  fourfold-rest h = by (decide (eqb (len % 4) 0))
    where
      by : (eqb (len % 4) 0 ≡ true) ⊎ (eqb (len % 4) 0 ≡ false) → eqb (len % 4) 0 ≡ eqb len (count * 4)
      by (inl t) = t ∙ sym (eq-eqb len (count * 4) (omega (arith, eqb-true (len % 4) 0 t)))
      by (inr t) = t ∙ sym (ne_eqb len (count * 4) (λ e. eqb-false (len % 4) 0 t (omega arith)))

-- a number of 32 bits is read back from its four bytes: no other number is written so
pub four-back : (n : ℕ) → n < 4294967296 → from_four (four n) ≡ n
four-back n h =
    let a = div-add-mod' n 256 in
    let b = div-add-mod' (n / 256) 256 in
    let d = div-add-mod' (n / 65536) 256 in
    let u : n / 256 / 256 ≡ n / 65536 = div-div-eq-div-mul n 256 256 in
    let v : n / 65536 / 256 ≡ n / 16777216 = div-div-eq-div-mul n 65536 256 in
    let x : n / 16777216 % 256 ≡ n / 16777216 = mod-eq_of_lt (omega arith) in
    omega arith

pub length-four : (l : List ℕ) → length (flatten four l) ≡ length l * 4
length-four l = length-flatten four 4 (λ n. refl) l

-- ---- laid over a run
module _ {A : Type 0} where
  -- over all of a run
  pub put_all : (l out : List A) → length l ≡ length out → put_at 0 l out ≡ l
  put_all l out h = sym (take_all (0 + length l) (put_at 0 l out) (omega (arith, length_put 0 l out))) ∙ put_front 0 l out (omega arith)

pub laid_four : (k x : ℕ) (out : List ℕ) → LaidAt k (four x) (out) (set (set (set (set out k (x % 256)) (k + 1) (x / 256 % 256)) (k + 2) (x / 65536 % 256)) (k + 3) (x / 16777216 % 256))
laid_four k x out = record { list = put_four k (x % 256) (x / 256 % 256) (x / 65536 % 256) (x / 16777216 % 256) out }

-- a loop that has laid the first i of `all` from a place on, w numbers each
pub record Lays {A : Type 0} (flat : A → List ℕ) (w : ℕ) (all : List A) (from i : ℕ) (out₀ out : List ℕ) : Type 0 where
  pub within : i ≤ length all
  pub room : from + length all * w ≤ length out₀
  pub list : out ≡ put_at from (flatten flat (take i all)) out₀

module _ {A : Type 0} {flat : A → List ℕ} {w : ℕ} {all : List A} {from : ℕ} {out₀ : List ℕ} where
  pub lays_first : from + length all * w ≤ length out₀ → Lays flat w all from 0 out₀ out₀
  lays_first h = record { within = omega arith; room = h; list = refl }

  module _ {i : ℕ} {out : List ℕ} (l : Lays flat w all from i out₀ out) where
    pub lays_same : length out ≡ length out₀
    lays_same = ap length l.list ∙ length_put from (flatten flat (take i all)) out₀

    pub lays_all : length all ≤ i → LaidAt from (flatten flat all) out₀ out
    lays_all h = record { list = l.list ∙ rw (take_all i all h) }

module _ {A : Type 0} (flat : A → List ℕ) (w : ℕ) (wide : (a : A) → length (flat a) ≡ w) (d : A) {all : List A} {from : ℕ} {out₀ : List ℕ} {i : ℕ} {out : List ℕ} (l : Lays flat w all from i out₀ out) where
  pub lays_next : (out' : List ℕ) → i < length all → LaidAt (from + i * w) (flat (get_or all i d)) out out' → Lays flat w all from (i + 1) out₀ out'
  lays_next out' h x =
      let e : length (flatten flat (take i all)) ≡ i * w = length-flatten flat w wide (take i all) ∙ ap (λ (n : ℕ). n * w) (length-take-le i all (omega arith)) in
      let f : flatten flat (take (suc i) all) ≡ flatten flat (take i all) ++ flat (get_or all i d) = rw (take-suc all i d h) (flatten_snoc (take i all) (get_or all i d)) in
      record {
        within = omega arith;
        room = l.room;
        list = x.list ∙ ap (put_at (from + i * w) (flat (get_or all i d))) l.list ∙ rw (add-one i, f, put_append from (flatten flat (take i all)) (flat (get_or all i d)) out₀, e);
      }
    where
      flatten_snoc : (a : List A) (b : A) → flatten flat (a ++ (b ∷ [])) ≡ flatten flat a ++ flat b
      flatten_snoc [] b = append-nil (flat b)
      flatten_snoc (x ∷ a) b = rw (flatten_snoc a b) (sym (append_assoc (flat x) (flatten flat a) (flat b)))

-- numbers, four bytes each
module _ {all : List ℕ} {from : ℕ} {out₀ : List ℕ} {i : ℕ} {out : List ℕ} (l : Lays four 4 all from i out₀ out) where
  pub lays_room : i < length all → from + i * 4 + 4 ≤ length out
  lays_room h = omega (arith, lays_same l)

  pub lays_again : (out' : List ℕ) → i < length all → LaidAt (from + i * 4) (four (get_or all i 0)) out out' → Lays four 4 all from (i + 1) out₀ out'
  lays_again out' h d = lays_next four 4 (λ n. refl) 0 l out' h d

  pub lays_again_byte : (x : ℕ) (out' : List ℕ) → i < length all → Index (get_or all i 0) x → LaidAt (from + i * 4) (four x) out out' → Lays four 4 all from (i + 1) out₀ out'
  lays_again_byte x out' h w d = lays_again out' h (rw w.same at d)

-- ---- reading: an array whose first i places are filled by a function
module _ {B : Type 0} where
  tabulate_snoc : (f : ℕ → B) (n a : ℕ) → tabulate f (suc n) a ≡ tabulate f n a ++ (f (a + n) ∷ [])
  unfolding tabulate
  tabulate_snoc f zero a =
      let e : a + 0 ≡ a = omega arith in
      rw e
  tabulate_snoc f (suc n) a =
      let e : suc a + n ≡ a + suc n = omega arith in
      ap (λ (l : List B). f a ∷ l) (tabulate_snoc f n (suc a) ∙ ap (λ (k : ℕ). tabulate f n (suc a) ++ (f k ∷ [])) e)

  pub record Fills (f : ℕ → B) (n : ℕ) (out₀ out : List B) (i : ℕ) : Type 0 where
    pub within : i ≤ n
    pub long : length out₀ ≡ n
    pub list : out ≡ put_at 0 (tabulate f i 0) out₀

  pub fills_first : (f : ℕ → B) (n : ℕ) (out : List B) → length out ≡ n → Fills f n out out 0
  unfolding tabulate
  fills_first f n out h = record { within = omega arith; long = h; list = refl }

  pub fills_again : (f : ℕ → B) (n i : ℕ) (v : B) (out₀ out : List B) → i < n → v ≡ f i → Fills f n out₀ out i → Fills f n out₀ (set out i v) (i + 1)
  fills_again f n i v out₀ out h e l =
      let z : 0 + i ≡ i = omega arith in
      let s : tabulate f (suc i) 0 ≡ tabulate f i 0 ++ (v ∷ []) = tabulate_snoc f i 0 ∙ rw (z, e) in
      record {
        within = omega arith;
        long = l.long;
        list = ap (λ (x : List B). set x i v) l.list ∙ rw (add-one i, s, put_append 0 (tabulate f i 0) (v ∷ []) out₀, length-tabulate f i 0, z);
      }

  pub fills_all : (f : ℕ → B) (n i : ℕ) (out₀ out : List B) → n ≤ i → Fills f n out₀ out i → out ≡ tabulate f n 0
  fills_all f n i out₀ out h l =
      let e : i ≡ n = omega arith in
      l.list ∙ rw e (put_all (tabulate f n 0) out₀ (length-tabulate f n 0 ∙ sym l.long))
