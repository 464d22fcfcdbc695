-- What is counted. Assumes nothing.
use Rattle.std.specs.Prelude.{cond, ℕ, ◌+◌, min, eqb, get_or}
use Rattle.stored.specs.Form.{is_capital}
use Rattle.stored.specs.Line.{is_stored}
use Rattle.stored.specs.declared.numbers.Numbers.{Numbers}
use Rattle.stored.specs.declared.line.Line.{Line}
use Rattle.stored.specs.declared.tally.Tally.{Tally}

-- the sum of two counts, within 64 bits
abbrev pub plus : ℕ → ℕ → ℕ
plus a b = min (a + b) 18446744073709551615

abbrev pub new_tally : ℕ → ℕ → ℕ → Tally
new_tally line section head = record { line = line; section = section; head = head; full = 0; blocks = 0; inside = 0; differ = 0 }

abbrev pub on_next_line : Tally → Tally
on_next_line t = record { line = plus t.line 1; section = t.section; head = t.head; full = t.full; blocks = t.blocks; inside = t.inside; differ = t.differ }

-- one more line that differs
abbrev pub differing : Tally → Tally
differing t = record { line = t.line; section = t.section; head = t.head; full = t.full; blocks = t.blocks; inside = t.inside; differ = plus t.differ 1 }

-- one more answer in full; a capital's is a block, whose first number says how many answers it holds
abbrev pub one_answered : Tally → ℕ → ℕ → Tally
one_answered t letter x = cond (is_capital letter)
    (record { line = t.line; section = t.section; head = t.head; full = t.full; blocks = plus t.blocks 1; inside = plus t.inside x; differ = t.differ })
    (record { line = t.line; section = t.section; head = t.head; full = plus t.full 1; blocks = t.blocks; inside = t.inside; differ = t.differ })

-- a line, and what was found
abbrev pub judged_by : Tally → Line → Numbers → Tally
judged_by t l n = cond (eqb n.count 0) (differing t) (cond (is_stored l n) (one_answered t l.letter (get_or n.cells 0 0)) (differing (one_answered t l.letter (get_or n.cells 0 0))))
