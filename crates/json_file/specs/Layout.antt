-- Our one layout of a list of regions. Assumes nothing.
-- Request 4: "Write a region list as an array of objects with "start" and "end" … We write "start" first and no white space."
use Rattle.std.specs.Prelude.{cond, List, [], ◌∷◌, ◌++◌, ℕ, eqb}
use Rattle.decimal.specs.Decimal.{decimal}
use Rattle.common.specs.Entry.{flatten}
use Rattle.common.specs.declared.span.Span.{Span}

-- `{"start":`, `,"end":` and `}`
abbrev pub start_lead : List ℕ
start_lead = 123 ∷ 34 ∷ 115 ∷ 116 ∷ 97 ∷ 114 ∷ 116 ∷ 34 ∷ 58 ∷ []

abbrev pub end_lead : List ℕ
end_lead = 44 ∷ 34 ∷ 101 ∷ 110 ∷ 100 ∷ 34 ∷ 58 ∷ []

-- a region's object
unfoldable pub object_of : Span → List ℕ
object_of r = start_lead ++ (decimal r.start ++ (end_lead ++ (decimal r.end ++ (125 ∷ []))))

-- the objects, a comma before each but the first
unfoldable pub objects_of : List Span → List ℕ
objects_of [] = []
objects_of (r ∷ l) = object_of r ++ flatten (λ q. 44 ∷ object_of q) l

-- region k's part of them: b, behind a comma where it isn't the first
abbrev pub lead_of : ℕ → List ℕ → List ℕ
lead_of k b = cond (eqb k 0) b (44 ∷ b)

-- the array
unfoldable pub layout : List Span → List ℕ
layout l = 91 ∷ (objects_of l ++ (93 ∷ []))
