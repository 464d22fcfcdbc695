-- What the parts of an amendment in bytes ask and promise, where `Parts` of crate amend doesn't serve both forms. Assumes nothing.
use Rattle.std.specs.Prelude.{◌≡◌, List, ℕ, ◌+◌, ◌*◌, ◌/◌, ◌≤◌, length}
use Rattle.common.specs.Entry.{flatten}
use Rattle.region.specs.Region.{Listed}
use Rattle.rules.specs.Grammar.{Gram}
use Rattle.cells.specs.Bytes.{row_bytes}
use Rattle.cells.specs.Poured.{ListRuns, Poured}
use Rattle.amend.specs.Amend.{Edit}
use Rattle.amend.specs.Amended.{amended_regions, settled_answer}
use Rattle.amend.specs.Parts.{parts, Roomy}
use Rattle.amend.specs.declared.Cuts.{Cuts}
use Rattle.amend.specs.declared.Split.{Split}
use Rattle.amending.specs.Amending.{listed_bytes}

-- a run of bytes with room for region n, whose two places fit 32 bits
pub record RowBytesFit (n start end : ℕ) (out : List ℕ) : Type 0 where
  pub room : n * row_bytes + row_bytes ≤ length out
  pub low : start ≤ 4294967295
  pub high : end ≤ 4294967295

-- an amended list in its three parts, of `total` regions, that a run is asked to have room for
pub record Planned (g : Gram) (l : List ℕ) (split : Split) (cuts : Cuts) (r : List ℕ) (total : ℕ) : Type 0 where
  pub count : length (parts g l split cuts r) ≡ total
  pub roomy : (out : List ℕ) → total ≤ length out / row_bytes → Roomy row_bytes g l split cuts r out

-- what settling promises
abbrev pub SettledBytes : ℕ → ℕ → (List ℕ → List Listed) → List Listed → Edit → ListRuns → ListRuns → ℕ → Type 0
SettledBytes eol len build l e before after r =
    Poured (settled_answer row_bytes eol len build l e before.list) (flatten listed_bytes (amended_regions build len e l)) before after r
