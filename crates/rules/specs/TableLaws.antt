-- Laws of tables: those of columns make the grammar of the columns. Assumes nothing.
use Rattle.std.specs.Prelude.{◌≡◌, List, ℕ}
use Rattle.std.proofs.Common.{sym, ◌∙◌}
use Rattle.search.specs.Promise.{Gives}
use Rattle.common.specs.declared.grammar.Grammar.{Grammar}
use Rattle.lines.specs.Fences.{fence_table}
use Rattle.rules.specs.Columns.{Columns, alphabet_of, gram_of}
use Rattle.rules.specs.RowLaws.{gram_same, folded_unique, laid_folded}
use Rattle.rules.specs.Rows.{no_rows, AllLaid}
use Rattle.rules.specs.Tables.{gram_in, TablesOf}
use Rattle.rules.specs.declared.search_bytes.Alphabet.{Alphabet}
use Rattle.rules.specs.declared.tables.Tables.{Tables}

module _ {g : Grammar} {c : Columns} {t : Tables} (w : TablesOf g c t) where
  pub gram_told : gram_in t ≡ gram_of g c
  gram_told =
      let i = c.inline in
      gram_same c.fence_bytes i.sym_bytes i.sym_counts i.openers i.closers i.open_counts t.rows w.rows g c.fence_mins t.alphabet t.fences w.alphabet w.fences

  pub grammar_told : t.alphabet.grammar ≡ g
  grammar_told = cc

-- two results of folding the same columns are one
pub tables_unique : {g : Grammar} {c : Columns} {a b : Tables} → TablesOf g c a → TablesOf g c b → a ≡ b
tables_unique v w = λ j. record { alphabet = (v.alphabet.answer ∙ sym w.alphabet.answer) j; fences = (v.fences.answer ∙ sym w.fences.answer) j; rows = folded_unique v.rows w.rows j }

-- tables that are put together, and whose rows are laid where they stand
pub tables_laid : {g : Grammar} {c : Columns} {a : Alphabet} {f : List ℕ} {rows rows' : List (List ℕ)} → Gives (alphabet_of g c.fence_bytes c.inline.sym_bytes c.inline.openers) a → Gives (fence_table c.fence_bytes c.fence_mins) f
    → Gives no_rows rows → AllLaid c.fence_bytes c.inline rows rows' → TablesOf g c (record { alphabet = a; fences = f; rows = rows' })
tables_laid {c = c} {rows = rows} {rows' = rows'} x y z h =
    let i = c.inline in
    record { alphabet = x; fences = y; rows = laid_folded c.fence_bytes i.sym_bytes i.sym_counts i.openers i.closers i.open_counts rows rows' z h }
