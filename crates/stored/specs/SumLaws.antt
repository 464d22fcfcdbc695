-- Laws of the checksums. Assumes nothing.
use Rattle.std.specs.Prelude.{◌≡◌, refl, cond, List, ℕ, zero, suc, ◌*◌, eqb}
use Rattle.std.proofs.Common.{mul-le-mul, arith, Fits}
use Rattle.std.specs.Int.{w32, w64}
use Rattle.stored.specs.Texts.{of_number}
use Rattle.stored.specs.TextLaws.{above}
use Rattle.stored.specs.Sums.{clipped, fed, fed_text, fed_question}
use Rattle.stored.specs.declared.sums.Sums.{Sums}

-- the product of two numbers of 32 bits
pub product_fits : (a b : ℕ) → Fits w32 a → Fits w32 b → Fits w64 (a * b)
product_fits a b h k = record { fits = omega (arith, h.fits, k.fits, mul-le-mul {n₁ = a} {m₁ = b} {n₂ = 4294967295} {m₂ = 4294967295} (omega (arith, h.fits)) (omega (arith, k.fits))) }

-- a question of places by their number: all but 0 feed the place
pub question_by_number : (s : Sums) (t : List ℕ) (n p : ℕ) → fed_question s t (of_number n) p ≡ cond (eqb n 0) (fed_text s t) (fed (fed_text s t) (clipped p))
question_by_number s t zero p = refl
question_by_number s t (suc zero) p = refl
question_by_number s t (suc (suc zero)) p = refl
question_by_number s t (suc (suc (suc zero))) p = refl
question_by_number s t (suc (suc (suc (suc zero)))) p = refl
question_by_number s t (suc (suc (suc (suc (suc n))))) p = simp (above n 0 (omega arith), above n 1 (omega arith), above n 2 (omega arith), above n 3 (omega arith), above n 4 (omega arith))
