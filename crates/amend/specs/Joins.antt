-- What the proof of demand 3 asks of a builder: lists in order, and that texts behind an empty line join. No promise names it. Assumes nothing.
use Rattle.std.specs.Prelude.{◌≡◌, true, false, List, ◌++◌, ◌⊎◌, ℕ, ◌-◌, ◌<◌, length, get_or}
use Rattle.region.specs.Region.{Region, up, reaches, InOrder}

-- a text that is empty or ends in an empty line: its last byte is a line end, and so is the byte before, if there is one (`length a - 2`
-- is the only place of a text of one byte)
abbrev pub Blank : ℕ → List ℕ → Type 0
Blank eol a = 0 < length a → (get_or a (length a - 1) 0 ≡ eol) × (get_or a (length a - 2) 0 ≡ eol)

-- a text of a length with list l, and a longer one with list l': no region of l reaches the length, and l' is l and then `more`; or one
-- does, in l and in l'
abbrev pub Decided : {T : Type 0} → ℕ → List (Region T) → List (Region T) → List (Region T) → Type 0
Decided len l l' more = ((reaches len l ≡ false) × (l' ≡ l ++ more)) ⊎ ((reaches len l ≡ true) × (reaches len l' ≡ true))

-- a builder whose lists are in order and which joins texts behind an empty line
pub record Joins {T : Type 0} (eol : ℕ) (build : List ℕ → List (Region T)) : Type 0 where
  pub ordered : (s : List ℕ) → InOrder 0 (length s) (build s)
  pub decided : (a b : List ℕ) → Blank eol a → Decided (length a) (build a) (build (a ++ b)) (up (length a) (build b))
