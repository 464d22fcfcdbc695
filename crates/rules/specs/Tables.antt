-- The tables that rules are folded into, and the grammar that they make. Assumes nothing.
use Rattle.search.specs.Promise.{Gives}
use Rattle.common.specs.declared.grammar.Grammar.{Grammar}
use Rattle.lines.specs.Fences.{fence_table}
use Rattle.rules.specs.Grammar.{Gram}
use Rattle.rules.specs.Columns.{Columns, alphabet_of}
use Rattle.rules.specs.Rows.{gram_by, Folded}
use Rattle.rules.specs.declared.tables.Tables.{Tables}

-- the grammar that tables make
abbrev pub gram_in : Tables → Gram
gram_in t = gram_by t.alphabet t.fences t.rows

-- what folding columns into tables promises
pub record TablesOf (g : Grammar) (c : Columns) (t : Tables) : Type 0 where
  pub alphabet : Gives (alphabet_of g c.fence_bytes c.inline.sym_bytes c.inline.openers) t.alphabet
  pub fences : Gives (fence_table c.fence_bytes c.fence_mins) t.fences
  pub rows : Folded c.fence_bytes c.inline t.rows
