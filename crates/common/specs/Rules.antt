-- Rules by byte, from the columns of fence rules, symmetric rules and openers; and tables over the bytes. Assumes nothing.
-- The page: "by the first rule with that byte".
use Rattle.std.specs.Prelude.{Bool, cond, List, [], ◌∷◌, ℕ, zero, suc, ltb, length, get_or}
use Rattle.search.specs.Search.{find, is}

-- the values of a function at n numbers from a on
unfoldable pub tabulate : {B : Type 0} → (ℕ → B) → ℕ → ℕ → List B
tabulate f zero a = []
tabulate f (suc n) a = f a ∷ tabulate f n (suc a)

-- the index of the first rule with a byte, else the number of rules
abbrev pub rule_index : List ℕ → ℕ → ℕ
rule_index bytes b = find (is b) bytes 0

-- whether a rule has a byte
abbrev pub has_rule : List ℕ → ℕ → Bool
has_rule bytes b = ltb (rule_index bytes b) (length bytes)

-- the minimum of the first rule with a byte, else 0
abbrev pub least_of : List ℕ → List ℕ → ℕ → ℕ
least_of bytes mins b = cond (has_rule bytes b) (get_or mins (rule_index bytes b) 0) 0

-- the entry of a table for a number, else d
abbrev pub entry : {B : Type 0} → B → List B → ℕ → B
entry d l b = get_or l b d

-- f of a byte, d of a larger number
abbrev pub on_byte : {B : Type 0} → B → (ℕ → B) → ℕ → B
on_byte d f b = cond (ltb b 256) (f b) d
