-- Laws of the texts of a block. Assumes nothing.
use Rattle.std.specs.Prelude.{◌≡◌, Bool, true, false, cond, Result, Ok, Err, List, ℕ, zero, suc, ◌+◌, ◌%◌, ◌≤◌, ◌<◌, eqb, min, length, get_or, set, replicate}
use Rattle.std.proofs.Math.Path.{refl, sym, ap}
use Rattle.std.proofs.Common.{◌∙◌, add-one, arith, ne_eqb}
use Rattle.search.specs.Promise.{Gives}
use Rattle.stored.specs.Parts.{front}
use Rattle.stored.specs.PartLaws.{Fronts, fronts_first, fronts_again, fronts_all}
use Rattle.stored.specs.Texts.{name_in, without_digit, shifted, letter, is_over, text_of, of_number, least_place, places_of}

-- ---- the byte that a number's last digit names, where there is an alphabet
module _ (alphabet : List ℕ) (n : ℕ) where
  pub name_in_lem : (x : ℕ) → (length alphabet ≡ 0 → ⊥) → Gives (get_or alphabet (n % length alphabet) 0) x → x ≡ name_in alphabet n
  name_in_lem x e g = simp (ne_eqb (length alphabet) 0 e, g.answer)

-- a loop that has written the first i bytes of a text
pub record Spells (alphabet : List ℕ) (n e : ℕ) (bytes : List ℕ) (left i : ℕ) : Type 0 where
  pub written : Fronts (letter alphabet n) e 8 bytes i
  pub rest : left ≡ shifted (length alphabet) n i

module _ (alphabet : List ℕ) (n e : ℕ) where
  pub spells_first : Spells alphabet n e (replicate 8 0) n 0
  unfolding shifted
  spells_first = record { written = fronts_first (letter alphabet n) e 8; rest = refl }

  module _ (bytes : List ℕ) (left i : ℕ) (w : Spells alphabet n e bytes left i) (len : ℕ) (g : e ≡ min len 8) where
    pub spells_again : (x more : ℕ) → i < e → Gives (name_in alphabet left) x → Gives (without_digit (length alphabet) left) more → Spells alphabet n e (set bytes i x) more (i + 1)
    unfolding shifted letter
    spells_again x more h a d = record {
      written = fronts_again (letter alphabet n) e 8 bytes i x h (omega (arith, g)) (record { answer = a.answer ∙ ap (name_in alphabet) w.rest }) w.written;
      rest = d.answer ∙ ap (without_digit (length alphabet)) w.rest ∙ rw add-one;
    }

    module _ (over : Bool) (h : e ≤ i) (k : Gives (is_over left (length alphabet) len) over) where
      told : over ≡ is_over (shifted (length alphabet) n (min len 8)) (length alphabet) len
      told = let z : i ≡ e = omega (arith, w.written.within) in k.answer ∙ ap (λ (m : ℕ). is_over m (length alphabet) len) (w.rest ∙ ap (shifted (length alphabet) n) (z ∙ g))

      spelt : bytes ≡ front (letter alphabet n) (min len 8) 8
      spelt = fronts_all (letter alphabet n) e 8 bytes i h w.written ∙ ap (λ (m : ℕ). front (letter alphabet n) m 8) g

      abbrev text : Bool → Result (List ℕ) (List ℕ)
      text y = cond y (Err (front (letter alphabet n) (min len 8) 8)) (Ok (front (letter alphabet n) (min len 8) 8))

      pub text_none : over ≡ true → Err bytes ≡ text_of n alphabet len
      text_none o = ap (λ (l : List ℕ). Err l) spelt ∙ sym (ap text o) ∙ ap text told

      pub text_some : over ≡ false → Ok bytes ≡ text_of n alphabet len
      text_some o = ap (λ (l : List ℕ). Ok l) spelt ∙ sym (ap text o) ∙ ap text told

-- ---- what the number of a kind of places says: none from 5 on is one of the first five
pub above : (n k : ℕ) → k < 5 → eqb (suc (suc (suc (suc (suc n))))) k ≡ false
above n k h = ne_eqb (suc (suc (suc (suc (suc n))))) k (λ d. omega (arith, d, h))

pub places_by_number : (n len : ℕ) → places_of (of_number n) len ≡ cond (eqb n 1) (min len 8 + 1) (cond (eqb n 2) (min len 8) (cond (eqb n 3) (min len 8 + 2) 1))
places_by_number zero len = refl
places_by_number (suc zero) len = refl
places_by_number (suc (suc zero)) len = refl
places_by_number (suc (suc (suc zero))) len = refl
places_by_number (suc (suc (suc (suc zero)))) len = refl
places_by_number (suc (suc (suc (suc (suc n))))) len = simp (above n 0 (omega arith), above n 1 (omega arith), above n 2 (omega arith), above n 3 (omega arith), above n 4 (omega arith))

pub least_by_number : (n : ℕ) → least_place (of_number n) ≡ cond (eqb n 2) 1 0
least_by_number zero = refl
least_by_number (suc zero) = refl
least_by_number (suc (suc zero)) = refl
least_by_number (suc (suc (suc zero))) = refl
least_by_number (suc (suc (suc (suc zero)))) = refl
least_by_number (suc (suc (suc (suc (suc n))))) = simp (above n 0 (omega arith), above n 1 (omega arith), above n 2 (omega arith), above n 3 (omega arith), above n 4 (omega arith))
