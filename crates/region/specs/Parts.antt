-- The parts of a turn, by what each function is given. Assumes nothing.
-- The page's sentences stand in Regions.antt.
use Rattle.std.specs.Prelude.{false, List, ℕ, ◌%◌, length, get_or}
use Rattle.search.specs.Search.{after_run, next_line}
use Rattle.lines.specs.Reader.{reader_in, close_scan}
use Rattle.common.specs.Turn.{Turn}
use Rattle.common.specs.declared.grammar.Grammar.{Grammar}
use Rattle.rules.specs.Grammar.{plain, Gram}
use Rattle.rules.specs.Rows.{cell, rule_in}
use Rattle.rules.specs.declared.tables.Tables.{Tables}
use Rattle.region.specs.Region.{Caused}
use Rattle.region.specs.Regions.{closed_by, sym_turn, asym_turn}
use Rattle.region.specs.Sight.{Sight}
use Rattle.region.specs.Memory.{kept_run, kept_inline}
use Rattle.region.specs.declared.Cause.TheVariants.{Symmetric, Asymmetric}

-- the grammar in which only paragraphs and fences are read: no byte is searched for, none opens a pair
abbrev pub fence_gram : Grammar → List ℕ → Gram
fence_gram g fences = record {
  eol = g.eol;
  escape = g.escape;
  trigger = λ b. false;
  rule = λ b. plain;
  fence_index = λ b. 0;
  fences = reader_in g fences;
}

-- that of tables
abbrev pub fence_gram_in : Tables → Gram
fence_gram_in t = fence_gram t.alphabet.grammar t.fences

-- the fence whose run of `count` begins at p, in a line that ends at e
unfoldable pub fenced_by : Grammar → List ℕ → ℕ → ℕ → ℕ → ℕ → Turn Caused
fenced_by g s p count e i = closed_by s p i (close_scan g (get_or s p 0) count s (next_line (length s) e))

-- a pair at an opener b that is not escaped, by the rows and a memory
unfoldable pub sym_pair : Gram → List (List ℕ) → List ℕ → List ℕ → ℕ → ℕ → Sight
sym_pair g rows s m p b = kept_run s m p b (cell rows b 3) Symmetric (cell rows b 4) (sym_turn g s b (cell rows b 3)) (after_run b s p)

unfoldable pub asym_pair : Gram → List (List ℕ) → List ℕ → List ℕ → ℕ → ℕ → Sight
asym_pair g rows s m p b = kept_run s m p b (cell rows b 3) Asymmetric (cell rows b 4) (asym_turn g s (cell rows b 2 % 256)) (after_run b s p)

-- a byte at p that opens no fence, by the rows and a memory
abbrev pub inline_by : Gram → List (List ℕ) → List ℕ → List ℕ → ℕ → Sight
inline_by g rows s m p = kept_inline g s m p (get_or s p 0) (rule_in rows (get_or s p 0))
