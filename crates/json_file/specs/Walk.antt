-- What the passes over a file know of how far they have read. Assumes nothing.
-- No sentence of request 4 speaks of this: it is what the loops hand on to each other.
use Rattle.std.specs.Prelude.{◌≡◌, List, [], ◌∷◌, ◌++◌, ℕ, ◌+◌, ◌≤◌, ◌<◌, length, drop}
use Rattle.common.specs.declared.span.Span.{Span}
use Rattle.json_file.specs.Form.{upto, off, outset, span, follow, broken_at}
use Rattle.json_file.specs.declared.phase.Phase.{Phase}
use Rattle.json_file.specs.declared.phase.Phase.TheVariants as phase
use Rattle.json_file.specs.declared.objects.NextObject.{NextObject}
use Rattle.json_file.specs.declared.objects.NextObject.TheVariants as next

-- the first i bytes of s are read, with the regions l, and g is what may come next
pub record Reached (s : List ℕ) (i : ℕ) (g : Phase) (l : List Span) : Type 0 where
  pub same : follow outset s ≡ follow (upto l g) (drop i s)
  pub at : broken_at outset s ≡ i + broken_at (upto l g) (drop i s)

-- what is known behind an object, at a byte that can't continue, and at the file's end, whatever regions stand before
abbrev pub WalkedTo : List ℕ → ℕ → Phase → NextObject → Type 0
WalkedTo s i g (next.Region a b k) = (i < k) × (k ≤ length s) × ((l : List Span) → Reached s i g l → Reached s k phase.Closed (l ++ (span a b ∷ [])))
WalkedTo s i g (next.Bad p) = (l : List Span) → Reached s i g l → (follow outset s ≡ off) × (broken_at outset s ≡ p)
WalkedTo s i g (next.Over k) = (l : List Span) → Reached s i g l → (follow outset s ≡ upto l k) × (broken_at outset s ≡ length s)

-- from place i and phase g on
pub record Walks (s : List ℕ) (i : ℕ) (g : Phase) (r : NextObject) : Type 0 where
  pub to : WalkedTo s i g r
