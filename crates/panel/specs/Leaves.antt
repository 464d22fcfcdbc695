-- What the entries of the leaves answer, where the core's answer is a record. Assumes nothing.
-- The page: "calls building and scanning with numbers and byte runs".
use Rattle.std.specs.Prelude.{List, ◌∷◌, ℕ}
use Rattle.common.specs.Refusals.{Outcome, given}
use Rattle.common.specs.Sets.{set_of, probe, as_flag}
use Rattle.common.specs.declared.sets.Probe.{Probe}
use Rattle.rules.specs.Columns.{search_bytes}
use Rattle.rules.specs.declared.search_bytes.SearchBytes.{SearchBytes}

-- a probe's values: the flag, the count, and the needles
abbrev pub probe_values : Probe → List ℕ
probe_values p = as_flag p.streaming ∷ p.nn ∷ p.needles

-- "up to three accepted bytes in rising order, unused places 0, else none"
unfoldable pub probe_answer : List ℕ → Outcome
probe_answer accepted = given (probe_values (probe (set_of accepted)))

-- search bytes' values: how many, and the eleven cells
abbrev pub search_values : SearchBytes → List ℕ
search_values w = w.count ∷ w.bytes

-- "fence bytes, symmetric bytes, asymmetric openers, in that order, without repeats, the first eleven kept"
unfoldable pub search_answer : List ℕ → List ℕ → List ℕ → Outcome
search_answer fences symmetric openers = given (search_values (search_bytes fences symmetric openers))
