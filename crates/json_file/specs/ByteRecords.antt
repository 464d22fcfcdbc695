-- Records and lists in bytes: what writing and reading answer and leave. Assumes nothing.
-- Document 01: "there each number of a list is four bytes, low byte first." Request 4: "not this JSON 10, with the place".
use Rattle.std.specs.Prelude.{◌≡◌, cond, List, [], ◌∷◌, ℕ, ◌/◌, ◌%◌, eqb, get_or}
use Rattle.common.specs.Entry.{flatten}
use Rattle.common.specs.Refusals.{Outcome, number_of, span_values}
use Rattle.common.specs.declared.refusal.Refusal.TheVariants.{NotRecords}
use Rattle.common.specs.declared.span.Span.{Span}
use Rattle.cells.specs.Bytes.{four, cells, row_bytes}
use Rattle.cells.specs.Poured.{ListRuns, Poured}
use Rattle.json_file.specs.Layout.{layout}
use Rattle.json_file.specs.Records.{regions_of, write_answer, read_answer, records_in}

-- a length in two numbers of 32 bits, the low one first
abbrev pub halves : ℕ → List ℕ
halves m = m % 4294967296 ∷ m / 4294967296 ∷ []

-- an answer whose values are told so
abbrev pub in_halves : Outcome → Outcome
in_halves o = record { number = o.number; values = flatten halves o.values }

-- the promise of writing a list in bytes
abbrev pub WroteBytes : List ℕ → ℕ → ListRuns → ListRuns → ℕ → Type 0
WroteBytes l n before after r = Poured (in_halves (write_answer (cells l) n before.list)) (layout (regions_of n (cells l))) before after r

-- behind 10 its place, else 0
abbrev pub place_behind : Outcome → ℕ
place_behind o = cond (eqb o.number (number_of NotRecords)) (get_or o.values 0 0) 0

-- a region's row in bytes
abbrev pub span_bytes : Span → List ℕ
span_bytes r = flatten four (span_values r)

-- the promise of reading a list in bytes
pub record ReadBytes (s : List ℕ) (before after : ListRuns) (r place : ℕ) : Type 0 where
  pub poured : Poured (read_answer row_bytes s before.list) (flatten span_bytes (records_in s)) before after r
  pub placed : place ≡ place_behind (read_answer row_bytes s before.list)
