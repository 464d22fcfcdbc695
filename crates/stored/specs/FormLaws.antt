-- Laws of forms. Assumes nothing.
use Rattle.std.specs.Prelude.{◌≡◌, Bool, false, cond, not, ◌&&◌, List, ℕ, zero, suc, ◌+◌, ◌≤◌, ◌<◌, eqb, set, replicate}
use Rattle.std.proofs.Math.Path.{refl, ap}
use Rattle.std.proofs.Common.{◌∙◌, arith}
use Rattle.search.specs.Promise.{Gives}
use Rattle.stored.specs.PartLaws.{Fronts, fronts_first, fronts_again, fronts_all}
use Rattle.stored.specs.Parts.{numbers_between, are_bytes}
use Rattle.stored.specs.Texts.{of_number}
use Rattle.stored.specs.TextLaws.{above}
use Rattle.stored.specs.Form.{next_end, list_end, ends_of, part_of, lists_sound, has_places, is_sound, behind_one, behind_text}
use Rattle.stored.specs.declared.form.Form.{Form}
use Rattle.stored.specs.declared.form.Question.{Question}
use Rattle.stored.specs.declared.texts.Places.{Places}

module _ (f : Form) (asked : List ℕ) where
  -- a loop that has found the first i ends
  pub record Parting (l : List ℕ) (end i : ℕ) : Type 0 where
    pub written : Fronts (list_end f asked) 9 9 l i
    pub here : end ≡ list_end f asked i

  pub parting_first : Parting (replicate 9 0) f.singles 0
  unfolding list_end
  parting_first = record { written = fronts_first (list_end f asked) 9 9; here = refl }

  pub parting_again : (l : List ℕ) (end i next : ℕ) → i < 9 → Gives (next_end f asked end i) next → Parting l end i → Parting (set l i end) next (i + 1)
  unfolding list_end
  parting_again l end i next h g w = record {
    written = fronts_again (list_end f asked) 9 9 l i end h h (record { answer = w.here }) w.written;
    here = let z : suc i ≡ i + 1 = omega arith in g.answer ∙ ap (λ (a : ℕ). next_end f asked a i) w.here ∙ ap (list_end f asked) z;
  }

  pub parting_all : (l : List ℕ) (end i : ℕ) → 9 ≤ i → Parting l end i → l ≡ ends_of f asked
  parting_all l end i h w = fronts_all (list_end f asked) 9 9 l i h w.written

-- ---- what the number of a form's places says: 4 asks nothing, 0 has no place behind the text
has_by_number : (n : ℕ) → has_places (of_number n) ≡ not (eqb n 4)
has_by_number zero = refl
has_by_number (suc zero) = refl
has_by_number (suc (suc zero)) = refl
has_by_number (suc (suc (suc zero))) = refl
has_by_number (suc (suc (suc (suc zero)))) = refl
has_by_number (suc (suc (suc (suc (suc n))))) = simp (above n 0 (omega arith), above n 1 (omega arith), above n 2 (omega arith), above n 3 (omega arith), above n 4 (omega arith))

one_by_number : (n : ℕ) → behind_one (of_number n) ≡ cond (eqb n 0) 0 1
one_by_number zero = refl
one_by_number (suc zero) = refl
one_by_number (suc (suc zero)) = refl
one_by_number (suc (suc (suc zero))) = refl
one_by_number (suc (suc (suc (suc zero)))) = refl
one_by_number (suc (suc (suc (suc (suc n))))) = simp (above n 0 (omega arith), above n 1 (omega arith), above n 2 (omega arith), above n 3 (omega arith), above n 4 (omega arith))

module _ (f : Form) (n : ℕ) (e : f.places ≡ of_number n) where
  pub sound_by_number : (asked : List ℕ) (q : Question) (runs : Bool)
      → is_sound f asked q runs ≡ (not (eqb n 4) && (are_bytes (numbers_between asked f.wide f.singles) false && (are_bytes (part_of q asked 7) runs && lists_sound f asked q)))
  sound_by_number asked q runs =
      ap (λ (y : Bool). y && (are_bytes (numbers_between asked f.wide f.singles) false && (are_bytes (part_of q asked 7) runs && lists_sound f asked q))) (ap has_places e ∙ has_by_number n)

  pub behind_by_number : (capital starred : Bool) → behind_text f capital starred ≡ cond capital (cond starred 3 1) (cond (eqb n 0) 0 1)
  behind_by_number capital starred = ap (λ (k : ℕ). cond capital (cond starred 3 1) k) (ap behind_one e ∙ one_by_number n)
