-- What building into a list in bytes answers and writes. Assumes nothing.
-- The page: "For building: 1, 6, 3." and "each number of a list is four bytes, low byte first."
use Rattle.std.specs.Prelude.{List, ℕ}
use Rattle.region.specs.Regions.{built_by}
use Rattle.common.specs.Entry.{flatten}
use Rattle.common.specs.declared.grammar.Grammar.{Grammar}
use Rattle.region.specs.Region.{Caused, row_of}
use Rattle.rules.specs.Columns.{Columns}
use Rattle.rules.specs.ByteRules.{ColumnRuns, RuleRuns, uneven_columns, uneven_rules, columns_in, rule_columns_in}
use Rattle.cells.specs.Bytes.{four, row_bytes}
use Rattle.cells.specs.Poured.{ListRuns, PouredAs, BuiltAs, CountedAs}

-- a region's bytes: its start, and its exclusive end
abbrev pub region_bytes : Caused → List ℕ
region_bytes r = flatten four (row_of r)

-- building that is past the refusals of text and rules
abbrev pub PouredBy : Grammar → Columns → List ℕ → ListRuns → ListRuns → ℕ → Type 0
PouredBy g c s before after r = PouredAs region_bytes row_bytes (built_by g c s) before after r

-- by columns
abbrev pub BuiltBytes : Grammar → ColumnRuns → List ℕ → ListRuns → ListRuns → ℕ → Type 0
BuiltBytes g c s before after r = BuiltAs region_bytes row_bytes (uneven_columns c) (built_by g (columns_in c) s) s before after r

-- by fence rules of two bytes each
abbrev pub BuiltRules : Grammar → RuleRuns → List ℕ → ListRuns → ListRuns → ℕ → Type 0
BuiltRules g c s before after r = BuiltAs region_bytes row_bytes (uneven_rules c) (built_by g (rule_columns_in c) s) s before after r

-- how many regions building by columns would write
abbrev pub CountedBytes : Grammar → ColumnRuns → List ℕ → List ℕ → List ℕ → ℕ → Type 0
CountedBytes g c s run run' r = CountedAs (uneven_columns c) (built_by g (columns_in c) s) s run run' r
