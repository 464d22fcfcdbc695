-- Numbers in decimal: the digits that write a number, and the number that digits write. Assumes nothing.
-- The page: "Bytes are decimal." and "1 to 9 ASCII digits"; of the change requests: "without leading zeros".
use Rattle.std.specs.Prelude.{Bool, true, false, ◌&&◌, List, [], ◌∷◌, ◌++◌, ℕ, zero, suc, ◌+◌, ◌-◌, ◌*◌, ◌/◌, ◌%◌, ltb, length, replicate}
use Rattle.search.specs.Search.{digit}
use Rattle.decimal.specs.declared.Digits.{Digits}

-- ---- a number is written
-- the last digits of n, f at the most and no leading zeros
unfoldable pub decimal_by : ℕ → ℕ → List ℕ
decimal_by zero n = []
decimal_by (suc f) n = elim (ltb n 10) [ true ↦ (48 + n) ∷ [] | false ↦ decimal_by f (n / 10) ++ ((48 + n % 10) ∷ []) ]

-- "decimal": a number below 10 is its digit; another has the digits of its tenth before its last one (DecimalLaws: `decimal_small`, `decimal-more`)
unfoldable pub decimal : ℕ → List ℕ
decimal n = decimal_by (suc n) n

-- the same in an array of ten, unused places 0, and how many digits they are
unfoldable pub digits_of : ℕ → Digits
digits_of n = record { bytes = decimal n ++ replicate (10 - length (decimal n)) 0; count = length (decimal n) }

-- ---- a number is read
-- the number that digits write behind a number v, and that they write alone
unfoldable pub valued_from : ℕ → List ℕ → ℕ
valued_from v [] = v
valued_from v (x ∷ l) = valued_from (v * 10 + (x - 48)) l

abbrev pub valued : List ℕ → ℕ
valued l = valued_from 0 l

-- ---- what can be written
-- whether bytes are digits alone
abbrev pub all_digits : List ℕ → Bool
all_digits [] = true
all_digits (x ∷ l) = digit x && all_digits l

-- "without leading zeros": one digit, or digits of which the first is no zero
abbrev pub numeral : List ℕ → Bool
numeral [] = false
numeral (x ∷ []) = digit x
numeral (x ∷ y ∷ l) = ltb 48 x && all_digits (x ∷ y ∷ l)
