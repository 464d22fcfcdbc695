-- What the facts about joints ask of a grammar: a fence reader that goes by lines, and a line end that neither escapes nor opens. Assumes nothing.
-- The page: "the escape, a symmetric byte or an asymmetric opener is the line-end byte (amendment only)" is refused.
use Rattle.std.specs.Prelude.{◌≡◌, List, ◌++◌, ℕ, ◌+◌, ◌<◌, length}
use Rattle.search.specs.SearchLaws.{Ends}
use Rattle.lines.specs.Reader.{Fences}
use Rattle.rules.specs.Grammar.{plain, Gram}

-- ---- a fence reader that goes by lines
-- a question that sees only the line of the place it is asked of: whole lines before that line do not change the answer, nor does what
-- follows whole lines that the place lies in
pub record Local {A : Type 0} (eol : ℕ) (ask : List ℕ → ℕ → A) : Type 0 where
  pub behind : (a b : List ℕ) → Ends eol a → (p : ℕ) → ask (a ++ b) (length a + p) ≡ ask b p
  pub within : (a b : List ℕ) → Ends eol a → (p : ℕ) → p < length a → ask (a ++ b) p ≡ ask a p

-- all that it is asked
pub record Linewise (eol : ℕ) (f : Fences) : Type 0 where
  pub opens : Local eol f.opens
  pub enters : Local eol f.enters
  pub size : Local eol f.size
  pub shuts : (b n : ℕ) → Local eol (f.shuts b n)

-- ---- a line end that neither escapes nor opens: the opposite of refusal 9 (`uses_line_end`), of any grammar
pub record FreeLineEnd (g : Gram) : Type 0 where
  pub escape : g.escape ≡ g.eol → ⊥
  pub opener : g.rule g.eol ≡ plain
