-- A line of a list. Assumes nothing.
-- The head of the first list: "A line is one letter and decimal numbers; all that isn't a digit parts them, and the words between are for a
-- reader. Numbers before the equals sign ask, those after it answer."
use Rattle.std.specs.Prelude.{Bool, true, cond, not, ◌&&◌, Option, Some, None, List, ℕ, ◌+◌, ◌-◌, ◌*◌, eqb, leb, get_or}
use Rattle.std.specs.Option.{unwrap_or}
use Rattle.search.specs.Search.{is, holds, digit}
use Rattle.std.specs.List.{fold}
use Rattle.stored.specs.Numbers.{no_numbers, with_number}
use Rattle.stored.specs.Parts.{numbers_between, same}
use Rattle.stored.specs.declared.numbers.Numbers.{Numbers}
use Rattle.stored.specs.declared.line.Line.{Line}
use Rattle.stored.specs.declared.line.Reading.{Reading}
use Rattle.stored.specs.declared.line.Kind.{Kind}
use Rattle.stored.specs.declared.line.Kind.TheVariants.{Comment, Section, Question, Broken}

-- ---- what was read so far
abbrev pub nothing_read : Reading
nothing_read = record { numbers = no_numbers; asked = 0; equals = 0; number = None }

-- a number with a digit more; one that is too large already stays so
abbrev pub longer : ℕ → ℕ → ℕ
longer v d = cond (leb 4294967296 v) v (v * 10 + d)

-- a digit of the number that is read
abbrev pub with_digit : Reading → ℕ → Reading
with_digit r d = record { numbers = r.numbers; asked = r.asked; equals = r.equals; number = Some (longer (unwrap_or r.number 0) d) }

-- a number that is too large finds no room
abbrev pub spilled : Numbers → Numbers
spilled n = record { cells = n.cells; count = n.count; over = true; cut = n.cut; sums = n.sums }

abbrev pub kept_in : Numbers → ℕ → Numbers
kept_in n v = cond (leb 4294967296 v) (spilled n) (with_number n v)

-- "all that isn't a digit parts them"
abbrev pub parted_by : Option ℕ → Reading → Reading
parted_by None r = r
parted_by (Some v) r = record { numbers = kept_in r.numbers v; asked = r.asked; equals = r.equals; number = None }

abbrev pub parted_off : Reading → Reading
parted_off r = parted_by r.number r

-- "Numbers before the equals sign ask"
abbrev pub with_equals : Reading → Reading
with_equals r = record { numbers = r.numbers; asked = r.numbers.count; equals = cond (leb 2 r.equals) r.equals (r.equals + 1); number = r.number }

-- the next byte: a digit, the equals sign, or another
abbrev pub after_byte : Reading → ℕ → Reading
after_byte r b = cond (digit b) (with_digit r (b - 48)) (cond (eqb b 61) (with_equals (parted_off r)) (parted_off r))

abbrev pub read_all : List ℕ → Reading
read_all t = parted_off (fold after_byte nothing_read t)

-- "A line is one letter and decimal numbers", and a star may follow the letter
abbrev pub line_of : List ℕ → Line
line_of t = record { letter = get_or t 0 0; starred = holds (is 42) t 1; numbers = (read_all t).numbers; asked = (read_all t).asked; equals = (read_all t).equals }

-- ---- what a line is: a comment begins with #, a section's head with @
abbrev pub head_of : Line → Kind
head_of l = cond (eqb l.equals 0 && eqb l.numbers.count 1) (Section (get_or l.numbers.cells 0 0)) Broken

abbrev pub kind_of : Line → Kind
kind_of l = cond (eqb l.letter 35) Comment (cond l.numbers.over Broken (cond (eqb l.letter 64) (head_of l) (cond (eqb l.equals 1) Question Broken)))

-- whether the numbers that answer are those of a reply
abbrev pub is_stored : Line → Numbers → Bool
is_stored l n = not n.over && same (numbers_between n.cells 0 n.count) (numbers_between l.numbers.cells l.asked l.numbers.count)
