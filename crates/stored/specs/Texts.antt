-- The texts of a block. Assumes nothing.
-- The head of the first list: "With A bytes in the alphabet there are A^n texts: byte j of text i is alphabet[(i / A^j) % A]. Texts come in the
-- order of i, and for each the places in rising order".
use Rattle.std.specs.Prelude.{Bool, cond, ◌||◌, Result, Ok, Err, List, ℕ, zero, suc, ◌+◌, ◌/◌, ◌%◌, min, eqb, ltb, length, get_or}
use Rattle.stored.specs.Parts.{front}
use Rattle.stored.specs.declared.texts.Places.{Places}
use Rattle.stored.specs.declared.texts.Places.TheVariants.{Whole, FromStart, FromSecond, Beyond, Nowhere, AtStart}
use Rattle.stored.specs.declared.texts.Spot.{Spot}

-- "alphabet[… % A]": the byte that the last digit of a number names, to the base A
abbrev pub name_in : List ℕ → ℕ → ℕ
name_in alphabet n = cond (eqb (length alphabet) 0) 0 (get_or alphabet (n % length alphabet) 0)

-- a number without its last digit, to the base `size`
abbrev pub without_digit : ℕ → ℕ → ℕ
without_digit size n = cond (eqb size 0) 0 (n / size)

-- "i / A^j"
unfoldable pub shifted : ℕ → ℕ → ℕ → ℕ
shifted size n zero = n
shifted size n (suc j) = without_digit size (shifted size n j)

-- "byte j of text i is alphabet[(i / A^j) % A]"
unfoldable pub letter : List ℕ → ℕ → ℕ → ℕ
letter alphabet i j = name_in alphabet (shifted (length alphabet) i j)

-- whether there is no such text: no alphabet, a length over 8, or digits that are left
abbrev pub is_over : ℕ → ℕ → ℕ → Bool
is_over left size len = eqb size 0 || (ltb 8 len || ltb 0 left)

-- text i of a length: its bytes, as an error where there is no such text
abbrev pub text_of : ℕ → List ℕ → ℕ → Result (List ℕ) (List ℕ)
text_of i alphabet len =
    cond (is_over (shifted (length alphabet) i (min len 8)) (length alphabet) len) (Err (front (letter alphabet i) (min len 8) 8)) (Ok (front (letter alphabet i) (min len 8) 8))

-- ---- places by their numbers
abbrev pub of_number : ℕ → Places
of_number n = cond (eqb n 0) Whole (cond (eqb n 1) FromStart (cond (eqb n 2) FromSecond (cond (eqb n 3) Beyond (cond (eqb n 4) Nowhere AtStart))))

-- ---- "for each the places in rising order"
abbrev pub least_place : Places → ℕ
least_place Whole = 0
least_place FromStart = 0
least_place FromSecond = 1
least_place Beyond = 0
least_place Nowhere = 0
least_place AtStart = 0

abbrev pub places_of : Places → ℕ → ℕ
places_of Whole len = 1
places_of FromStart len = min len 8 + 1
places_of FromSecond len = min len 8
places_of Beyond len = min len 8 + 2
places_of Nowhere len = 1
places_of AtStart len = 1

-- the question that `turn` stand before; text 1 where a text has no place
abbrev pub spot_by : ℕ → ℕ → ℕ → Spot
spot_by turn each first = cond (eqb each 0) (record { number = 1; place = 0 }) (record { number = turn / each; place = turn % each + first })

abbrev pub spot_of : ℕ → Places → ℕ → Spot
spot_of turn places len = spot_by turn (places_of places len) (least_place places)
