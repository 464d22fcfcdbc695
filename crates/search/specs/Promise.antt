-- How a promise is written, with the laws that two answers which keep it are equal. Assumes nothing.
-- The page: "For every input, refused ones too, the promise determines the answer".
use Rattle.std.specs.Prelude.{◌≡◌}
use Rattle.std.proofs.Common.{sym, ◌∙◌}

-- the promise of a function that only answers: its answer is x
pub record Gives {A : Type 0} (x r : A) : Type 0 where
  pub answer : r ≡ x

pub gives_unique : {A : Type 0} {x r r' : A} → Gives x r → Gives x r' → r ≡ r'
gives_unique g g' = g.answer ∙ sym g'.answer

-- the promise of a step: what its answer says is o, and the state that comes back is s
pub record Steps {O S : Type 0} (o : O) (s : S) (o' : O) (s' : S) : Type 0 where
  pub answer : o' ≡ o
  pub next : s' ≡ s

pub steps_unique : {O S : Type 0} {o : O} {s : S} {o' o'' : O} {s' s'' : S} → Steps o s o' s' → Steps o s o'' s'' → (o' ≡ o'') × (s' ≡ s'')
steps_unique g h = (g.answer ∙ sym h.answer, g.next ∙ sym h.next)
