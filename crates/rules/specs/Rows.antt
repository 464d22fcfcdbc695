-- Rules as a row for each byte, and the grammar that such rows make. Assumes nothing.
-- The page: "by the first rule with that byte": all that a scan asks of the rules is a function of one byte.
use Rattle.std.specs.Prelude.{◌≡◌, cond, List, [], ◌∷◌, ℕ, ◌%◌, ◌<◌, eqb, length, get_or, take, replicate}
use Rattle.search.specs.Search.{one_of}
use Rattle.common.specs.Rules.{tabulate, entry, rule_index, has_rule}
use Rattle.lines.specs.Reader.{reader_in}
use Rattle.rules.specs.Grammar.{Rule, plain, sym, asym, Gram}
use Rattle.rules.specs.Columns.{InlineRules, inline_rule, fence_index_of}
use Rattle.rules.specs.declared.search_bytes.Alphabet.{Alphabet}

-- a row: the index of the fence rule; the inline rule's kind (0 nothing, 1 symmetric, 2 asymmetric), closing byte, count and index
abbrev pub rule_row : ℕ → Rule → List ℕ
rule_row f plain = f ∷ 0 ∷ 0 ∷ 0 ∷ 0 ∷ []
rule_row f (sym i n) = f ∷ 1 ∷ 0 ∷ n ∷ i ∷ []
rule_row f (asym i c n) = f ∷ 2 ∷ c ∷ n ∷ i ∷ []

-- the rows of columns: the bytes of the fence rules, and the inline rules
unfoldable pub rule_rows : List ℕ → InlineRules → List (List ℕ)
rule_rows fences i = tabulate (λ b. rule_row (fence_index_of fences b) (inline_rule i b)) 256 0

-- ---- what rows, also ones made by hand, say of a byte
abbrev pub cell : List (List ℕ) → ℕ → ℕ → ℕ
cell rows b k = get_or (get_or rows b []) k 0

abbrev pub rule_at : ℕ → ℕ → ℕ → ℕ → Rule
rule_at kind closer count index = cond (eqb kind 0) plain (cond (eqb kind 1) (sym index count) (asym index closer count))

-- the inline rule that a row says; that a byte's row says
abbrev pub rule_of : List ℕ → Rule
rule_of r = rule_at (get_or r 1 0) (get_or r 2 0 % 256) (get_or r 3 0) (get_or r 4 0)

abbrev pub rule_in : List (List ℕ) → ℕ → Rule
rule_in rows b = rule_of (get_or rows b [])

-- the grammar of an alphabet, a table of fences, and rows
abbrev pub gram_by : Alphabet → List ℕ → List (List ℕ) → Gram
gram_by a fences rows = record {
  eol = a.grammar.eol;
  escape = a.grammar.escape;
  trigger = one_of (take a.searched.count a.searched.bytes);
  rule = rule_in rows;
  fence_index = λ b. cell rows b 0;
  fences = reader_in a.grammar fences;
}

-- ---- filling
abbrev pub no_rows : List (List ℕ)
no_rows = replicate 256 (replicate 5 0)

-- a row with another inline rule; with another fence rule
abbrev pub pair_row : List ℕ → ℕ → ℕ → ℕ → ℕ → List ℕ
pair_row r kind closer count index = get_or r 0 0 ∷ kind ∷ closer ∷ count ∷ index ∷ []

abbrev pub fenced_row : List ℕ → ℕ → List ℕ
fenced_row r index = index ∷ get_or r 1 0 ∷ get_or r 2 0 ∷ get_or r 3 0 ∷ get_or r 4 0 ∷ []

-- what rule j of a column makes of a row
abbrev pub opener : List ℕ → List ℕ → ℕ → List ℕ → List ℕ
opener closers counts j r = pair_row r 2 (get_or closers j 0) (get_or counts j 0) j

abbrev pub twin : List ℕ → ℕ → List ℕ → List ℕ
twin times j r = pair_row r 1 0 (get_or times j 0) j

abbrev pub fencer : ℕ → List ℕ → List ℕ
fencer j r = fenced_row r j

-- rows over which the rules of a column are laid, the first with a byte: a byte's row; all
abbrev pub laid_row : List ℕ → (ℕ → List ℕ → List ℕ) → List (List ℕ) → ℕ → List ℕ
laid_row bytes made rows b = cond (has_rule bytes b) (made (rule_index bytes b) (entry [] rows b)) (entry [] rows b)

unfoldable pub laid_rows : List ℕ → (ℕ → List ℕ → List ℕ) → List (List ℕ) → List (List ℕ)
laid_rows bytes made rows = tabulate (laid_row bytes made rows) 256 0

-- what laying a column's rules over rows, which are 256, promises
pub record RulesLaid (bytes : List ℕ) (made : ℕ → List ℕ → List ℕ) (rows rows' : List (List ℕ)) : Type 0 where
  pub answer : length rows ≡ 256 → rows' ≡ laid_rows bytes made rows

-- a column's closing bytes are bytes
pub record ByteClosers (openers closers : List ℕ) : Type 0 where
  pub small : (j : ℕ) → j < length openers → get_or closers j 0 < 256

-- what laying the asymmetric rules promises besides
pub record OpenersLaid (o k n : List ℕ) (rows rows' : List (List ℕ)) : Type 0 where
  pub laid : RulesLaid o (opener k n) rows rows'
  pub closers : ByteClosers o k

-- all rules of columns laid over what stands in the rows: the asymmetric ones, over them the symmetric ones, and the fences' indices
pub record AllLaid (f : List ℕ) (i : InlineRules) (rows rows' : List (List ℕ)) : Type 0 where
  pub answer : length rows ≡ 256 → rows' ≡ laid_rows f fencer (laid_rows i.sym_bytes (twin i.sym_counts) (laid_rows i.openers (opener i.closers i.open_counts) rows))
  pub closers : ByteClosers i.openers i.closers

-- what folding columns promises; of inline rules alone, with no fence rules
pub record Folded (fences : List ℕ) (i : InlineRules) (rows : List (List ℕ)) : Type 0 where
  pub answer : rows ≡ rule_rows fences i
  pub closers : ByteClosers i.openers i.closers
