-- Runs of numbers, and what a list says of an answer. Assumes nothing.
-- The head of the first list: "A text, and any other list, is its length and its numbers." and "An answer is 1 and the value, or 2 for None,
-- or 0 where the Rust panicked."
use Rattle.std.specs.Prelude.{true, false, cond, List, ℕ, ◌+◌, leb, length, set, replicate, Err, None, Ok, Option, Result, Some}
use Rattle.common.specs.Refusals.{number_of}
use Rattle.std.specs.List.{fold}
use Rattle.stored.specs.Sums.{clipped, no_sums, fed_answer, counting, counted_sums}
use Rattle.stored.specs.declared.sums.Sums.{Sums}
use Rattle.stored.specs.declared.numbers.Numbers.{Numbers}
use Rattle.common.specs.declared.refusal.Refusal.{Refusal}

-- no number yet, after what was fed to the sums
abbrev pub after_sums : Sums → Numbers
after_sums s = record { cells = replicate 128 0; count = 0; over = false; cut = false; sums = s }

abbrev pub no_numbers : Numbers
no_numbers = after_sums no_sums

-- one number more: kept where there is room for it, and fed to the sums unless a refusal came before
unfoldable pub with_number : Numbers → ℕ → Numbers
with_number n x = cond (leb 128 n.count)
    (record { cells = n.cells; count = n.count; over = true; cut = n.cut; sums = fed_answer n.sums x n.cut })
    (record { cells = set n.cells n.count x; count = n.count + 1; over = n.over; cut = n.cut; sums = fed_answer n.sums x n.cut })

-- "A text, and any other list, is its length and its numbers."
abbrev pub said_list : Numbers → List ℕ → Numbers
said_list n l = fold with_number (with_number n (clipped (length l))) l

-- the numbers of a block's answer: "how many questions were asked, and two sums"
abbrev pub said_sums : Sums → Numbers
said_sums s = with_number (with_number (with_number no_numbers s.asked) s.first) s.second

-- ---- a run of entries, whose count is known only behind them
abbrev pub summed : Numbers → Sums → Numbers
summed n s = record { cells = n.cells; count = n.count; over = n.over; cut = n.cut; sums = s }

-- 1 and a count of 0
abbrev pub entries_begun : Numbers → Numbers
entries_begun n = summed (with_number (with_number n 1) 0) (counting (with_number (with_number n 1) 0).sums)

-- the second number is the count, and the sums are as if it had been fed
abbrev pub entries_ended : Numbers → ℕ → Numbers
entries_ended n k = record { cells = set n.cells 1 k; count = n.count; over = n.over; cut = n.cut; sums = counted_sums n.sums k }

-- ---- answers
-- "1 and the value"
abbrev pub said_value : Numbers → ℕ → Numbers
said_value n v = with_number (with_number n 1) (clipped v)

abbrev pub cut_off : Numbers → Numbers
cut_off n = record { cells = n.cells; count = n.count; over = n.over; cut = true; sums = n.sums }

-- "0 where the Rust panicked", and the refusal's number
abbrev pub said_refusal : Numbers → ℕ → Numbers
said_refusal n k = with_number (cut_off (with_number n 0)) k

-- "1 and the value, or 2 for None, or 0"
abbrev pub said_found : Numbers → Result (Option ℕ) Refusal → Numbers
said_found n (Ok (Some p)) = said_value n p
said_found n (Ok None) = with_number n 2
said_found n (Err r) = said_refusal n (number_of r)

-- the 0 alone where a refusal came
abbrev pub up_to_refusal : Numbers → Numbers
up_to_refusal n = record { cells = n.cells; count = cond n.cut 1 n.count; over = n.over; cut = n.cut; sums = n.sums }
