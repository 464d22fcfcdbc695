-- Laws of rules read from byte runs: the fence rules gathered, and the grammar that columns make. Assumes nothing.
use Rattle.std.specs.Prelude.{◌≡◌, List, [], ℕ, ◌+◌, ◌*◌, ◌/◌, ◌≤◌, ◌<◌, length, get_or}
use Rattle.std.proofs.Math.Path.{sym}
use Rattle.std.proofs.Common.{◌∙◌, arith}
use Rattle.std.proofs.lemmas.List.{length-map}
use Rattle.std.proofs.Math.ListN.{get_or-map}
use Rattle.search.specs.Promise.{Gives}
use Rattle.common.specs.Entry.{rows}
use Rattle.common.specs.EntryLaws.{rows_at, length-rows}
use Rattle.rules.specs.Records.{no_rule, OneMore, AllGathered}
use Rattle.rules.specs.RecordLaws.{Gathering, gather_again, gather-all}
use Rattle.rules.specs.declared.records.Gathered.{Gathered}
use Rattle.common.specs.declared.grammar.Grammar.{Grammar}
use Rattle.rules.specs.Columns.{gram_of}
use Rattle.rules.specs.ByteRules.{ColumnRuns, inline_in, columns_in, fence_rule_of, fence_rules_of}
use Rattle.rules.specs.Tables.{gram_in, TablesOf}
use Rattle.rules.specs.TableLaws.{gram_told}
use Rattle.rules.specs.declared.tables.Tables.{Tables}

-- ---- fence rules of two bytes each
pub length_rules : (l : List ℕ) → length (fence_rules_of l) ≡ length l / 2
unfolding fence_rules_of
length_rules l = length-map (rows 2 (length l / 2) l) fence_rule_of ∙ length-rows 2 (length l / 2) l

pub rule_at_lem : (l : List ℕ) (i a b : ℕ) → i < length l / 2 → Gives (get_or l (i * 2) 0) a → Gives (get_or l (i * 2 + 1) 0) b → Gives (get_or (fence_rules_of l) i no_rule) (record { byte = a; min = b })
unfolding fence_rules_of
rule_at_lem l i a b h x y =
    let z : i * 2 + 0 ≡ i * 2 = omega arith in
    record {
      answer =
          rw (x.answer, y.answer)
          (sym (get_or-map fence_rule_of (rows 2 (length l / 2) l) i [] ∙ rw (rows_at 2 (length l / 2) i 0 l h (omega arith), rows_at 2 (length l / 2) i 1 l h (omega arith), z)));
    }

-- the loop that gathers them, at rule i
module _ (f : Gathered) (l : List ℕ) (i : ℕ) (so_far : Gathering (fence_rules_of l) f i) where
  pub rules_again : (a b : ℕ) (f' : Gathered) → i < length l / 2 → Gives (get_or l (i * 2) 0) a → Gives (get_or l (i * 2 + 1) 0) b → OneMore f (record { byte = a; min = b }) i f'
      → Gathering (fence_rules_of l) f' (i + 1)
  rules_again a b f' h x y g = gather_again f (fence_rules_of l) i so_far (record { byte = a; min = b }) f' (omega (arith, length_rules l)) (rule_at_lem l i a b h x y) g

  pub rules_all : length l / 2 ≤ i → AllGathered (fence_rules_of l) f
  rules_all h = gather-all f (fence_rules_of l) i so_far (omega (arith, length_rules l))

-- ---- the grammar of columns in bytes, folded into tables
pub gram_folded : {g : Grammar} (c : ColumnRuns) {t : Tables} → TablesOf g (record { fence_bytes = c.fence_bytes; fence_mins = c.fence_mins; inline = inline_in c.inline }) t → gram_in t ≡ gram_of g (columns_in c)
unfolding columns_in
gram_folded c w = gram_told w
