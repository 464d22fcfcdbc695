-- Rules that byte runs hold. Assumes nothing.
-- The page: "Rules come as columns of numbers" and "there each number of a list is four bytes, low byte first."
use Rattle.std.specs.Prelude.{Bool, not, ◌||◌, List, map, ℕ, ◌/◌, ◌%◌, eqb, length, get_or}
use Rattle.common.specs.Entry.{rows}
use Rattle.common.specs.Refusals.{differ}
use Rattle.rules.specs.Columns.{InlineRules, inline_rules, Columns}
use Rattle.rules.specs.Records.{rule_bytes, rule_mins}
use Rattle.rules.specs.declared.columns.InlineColumns.{InlineColumns}
use Rattle.rules.specs.declared.columns.RuleColumns.{RuleColumns}
use Rattle.rules.specs.declared.records.FenceRule.{FenceRule}
use Rattle.cells.specs.Bytes.{cells, fourfold}

-- ---- rules as a host lends them
-- the inline rules' columns, as those of `Columns`, where a count is four bytes
pub record InlineRuns : Type 0 where
  pub sym_bytes : List ℕ
  pub sym_counts : List ℕ
  pub openers : List ℕ
  pub closers : List ℕ
  pub open_counts : List ℕ

-- all rules as columns
pub record ColumnRuns : Type 0 where
  pub fence_bytes : List ℕ
  pub fence_mins : List ℕ
  pub inline : InlineRuns

-- those of seven runs
abbrev pub inline_runs : List ℕ → List ℕ → List ℕ → List ℕ → List ℕ → InlineRuns
inline_runs symmetric times openers closers counts = record { sym_bytes = symmetric; sym_counts = times; openers = openers; closers = closers; open_counts = counts }

abbrev pub column_runs : List ℕ → List ℕ → List ℕ → List ℕ → List ℕ → List ℕ → List ℕ → ColumnRuns
column_runs fences mins symmetric times openers closers counts = record { fence_bytes = fences; fence_mins = mins; inline = inline_runs symmetric times openers closers counts }

-- those of columns that a program holds
abbrev pub inline_runs_of : InlineColumns ℕ → InlineRuns
inline_runs_of i = inline_runs i.symmetric.now i.times.now i.openers.now i.closers.now i.counts.now

abbrev pub runs_of : RuleColumns ℕ → ColumnRuns
runs_of c = record { fence_bytes = c.fences.now; fence_mins = c.mins.now; inline = inline_runs_of c.inline }

-- fence rules in two bytes each, the byte and the minimum, and the inline rules
pub record RuleRuns : Type 0 where
  pub fence_rules : List ℕ
  pub inline : InlineRuns

-- ---- 6: a count column has four bytes for each byte of its byte column
abbrev pub uneven : InlineRuns → Bool
uneven i = not (fourfold i.sym_counts i.sym_bytes) || (differ i.openers i.closers || not (fourfold i.open_counts i.openers))

-- "a rule's columns differ in length": the fence rules', or an inline rule's
abbrev pub uneven_columns : ColumnRuns → Bool
uneven_columns c = differ c.fence_bytes c.fence_mins || uneven c.inline

-- the same of fence rules in two bytes each: an odd length is refused too
unfoldable pub uneven_rules : RuleRuns → Bool
uneven_rules c = not (eqb (length c.fence_rules % 2) 0) || uneven c.inline

-- ---- the columns that they hold, in numbers
abbrev pub inline_in : InlineRuns → InlineRules
inline_in i = inline_rules i.sym_bytes (cells i.sym_counts) i.openers i.closers (cells i.open_counts)

unfoldable pub columns_in : ColumnRuns → Columns
columns_in c = record { fence_bytes = c.fence_bytes; fence_mins = c.fence_mins; inline = inline_in c.inline }

-- a fence rule's two bytes: the byte, and the minimum
abbrev pub fence_rule_of : List ℕ → FenceRule
fence_rule_of l = record { byte = get_or l 0 0; min = get_or l 1 0 }

-- the rules of a run
unfoldable pub fence_rules_of : List ℕ → List FenceRule
fence_rules_of l = map fence_rule_of (rows 2 (length l / 2) l)

unfoldable pub rule_columns_in : RuleRuns → Columns
rule_columns_in c = columns_in (record {
  fence_bytes = rule_bytes (fence_rules_of c.fence_rules);
  fence_mins = rule_mins (fence_rules_of c.fence_rules);
  inline = c.inline;
})
