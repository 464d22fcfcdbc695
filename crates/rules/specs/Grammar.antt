-- The abstract grammar that regions are defined over. Assumes nothing.
-- The page, module 6: what its sentences ask of rules, whatever gives them.
use Rattle.std.specs.Prelude.{Bool, ℕ}
use Rattle.lines.specs.Reader.{Fences}

-- what a byte opens within a paragraph: nothing; a pair closed by a run of the same byte, `sym index count`; or a pair closed by one
-- closing byte, `asym index closer count`. The index is that of the rule that says so, the count the length of the opening run
pub data Rule : Type 0 where
  plain : Rule
  sym : ℕ → ℕ → Rule
  asym : ℕ → ℕ → ℕ → Rule

pub record Gram : Type 0 where
  pub eol : ℕ
  pub escape : ℕ
  -- the bytes searched for
  pub trigger : ℕ → Bool
  -- what a byte opens within a paragraph
  pub rule : ℕ → Rule
  -- the index of the fence rule of a byte
  pub fence_index : ℕ → ℕ
  pub fences : Fences
