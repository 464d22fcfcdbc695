-- What the amendment of a list in bytes answers and writes. Assumes nothing.
-- The page: "For an amendment: 1 (old text, replacement), 6, 4, 1 (edited text), 5, 9, 7, 8, 3.", "Success writes the regions from place 0, returns
-- their count and changes nothing beyond them." and "there each number of a list is four bytes, low byte first."
use Rattle.std.specs.Prelude.{List, ℕ}
use Rattle.common.specs.Entry.{flatten}
use Rattle.common.specs.declared.grammar.Grammar.{Grammar}
use Rattle.region.specs.Region.{Listed, row}
use Rattle.cells.specs.Bytes.{four, cells, row_bytes}
use Rattle.rules.specs.ByteRules.{ColumnRuns, uneven_columns, columns_in}
use Rattle.cells.specs.Poured.{ListRuns, Poured}
use Rattle.amend.specs.Amend.{Edit}
use Rattle.amend.specs.Amended.{amended_list, amend_answer}

-- the bytes of a region as a list has it: its start, and its exclusive end
abbrev pub listed_bytes : Listed → List ℕ
listed_bytes r = flatten four (row r)

-- the promise of an amendment of a list in bytes l, whose numbers are those of an amendment of numbers: its reply, the count, and the list that it
-- leaves. 3 is given where either run has too little room.
abbrev pub AmendedBytes : Grammar → ColumnRuns → List ℕ → List ℕ → ℕ → Edit → ListRuns → ListRuns → ℕ → Type 0
AmendedBytes g c s l n e before after r =
    Poured (amend_answer g (columns_in c) s (cells l) n e row_bytes (uneven_columns c) before.list)
    (flatten listed_bytes (amended_list g (columns_in c) s (cells l) n e)) before after r
