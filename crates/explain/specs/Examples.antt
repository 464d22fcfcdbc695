-- Each of the seven answers, computed from the definitions. Assumes nothing.
use Rattle.std.specs.Prelude.{◌≡◌, refl, List, [], ◌∷◌, ℕ}
use Rattle.search.specs.Search.{is, either, one_of, holds, first_of, first_place, find, line_start, digit}
use Rattle.common.specs.Turn.{gather}
use Rattle.common.specs.Refusals.{given, refused}
use Rattle.common.specs.Items.{leading, beyond}
use Rattle.decimal.specs.Decimal.{valued_from}
use Rattle.cover.specs.Shape.{misshapen}
use Rattle.common.specs.LineStarts.{starts_from, line_at}
use Rattle.explain.specs.Reasons.{led_from, led_by, line_led, hiders, why, explain_answer}

-- "- a\n\n1a\n1234567890. b\n1.c\n\t2) d\n-x\n"
abbrev text : List ℕ
text =
    45 ∷ 32 ∷ 97 ∷ 10 ∷ 10 ∷ 49 ∷ 97 ∷ 10 ∷ 49 ∷ 50 ∷ 51 ∷ 52 ∷ 53 ∷ 54 ∷ 55 ∷ 56 ∷ 57 ∷ 48 ∷ 46 ∷ 32 ∷ 98 ∷ 10 ∷ 49 ∷ 46 ∷ 99 ∷ 10 ∷ 9 ∷ 50 ∷ 41 ∷ 32 ∷ 100 ∷ 10 ∷ 45 ∷ 120 ∷ 10 ∷ []

abbrev list : List ℕ
list = 4 ∷ 5 ∷ 26 ∷ 31 ∷ []

on_sheet : explain_answer list 2 text 1 ≡ given (0 ∷ [])
unfolding is either one_of holds first_of first_place find line_start gather leading beyond digit valued_from misshapen starts_from line_at led_from led_by line_led hiders why explain_answer
on_sheet = refl

no_lead : explain_answer list 2 text 2 ≡ given (2 ∷ [])
unfolding is either one_of holds first_of first_place find line_start gather leading beyond digit valued_from misshapen starts_from line_at led_from led_by line_led hiders why explain_answer
no_lead = refl

no_delimiter_lem : explain_answer list 2 text 3 ≡ given (4 ∷ [])
unfolding is either one_of holds first_of first_place find line_start gather leading beyond digit valued_from misshapen starts_from line_at led_from led_by line_led hiders why explain_answer
no_delimiter_lem = refl

ten_digits_lem : explain_answer list 2 text 4 ≡ given (3 ∷ [])
unfolding is either one_of holds first_of first_place find line_start gather leading beyond digit valued_from misshapen starts_from line_at led_from led_by line_led hiders why explain_answer
ten_digits_lem = refl

no_blank_lem : explain_answer list 2 text 5 ≡ given (5 ∷ [])
unfolding is either one_of holds first_of first_place find line_start gather leading beyond digit valued_from misshapen starts_from line_at led_from led_by line_led hiders why explain_answer
no_blank_lem = refl

hidden : explain_answer list 2 text 6 ≡ given (6 ∷ 1 ∷ 26 ∷ 31 ∷ [])
unfolding is either one_of holds first_of first_place find line_start gather leading beyond digit valued_from misshapen starts_from line_at led_from led_by line_led hiders why explain_answer
hidden = refl

marker_no_blank : explain_answer list 2 text 7 ≡ given (5 ∷ [])
unfolding is either one_of holds first_of first_place find line_start gather leading beyond digit valued_from misshapen starts_from line_at led_from led_by line_led hiders why explain_answer
marker_no_blank = refl

-- the last line end starts no line; there is no line 0; the empty text has one line; 5 before any reason
no_eighth : explain_answer list 2 text 8 ≡ given (1 ∷ [])
unfolding is either one_of holds first_of first_place find line_start gather leading beyond digit valued_from misshapen starts_from line_at led_from led_by line_led hiders why explain_answer
no_eighth = refl

no_line_zero : explain_answer [] 0 text 0 ≡ given (1 ∷ [])
unfolding misshapen line_at line_led why explain_answer
no_line_zero = refl

empty_text : explain_answer [] 0 [] 1 ≡ given (2 ∷ [])
unfolding is either one_of holds first_of first_place find line_start gather leading beyond digit valued_from misshapen starts_from line_at led_from led_by line_led hiders why explain_answer
empty_text = refl

misshapen-first : explain_answer list 3 text 0 ≡ refused 5
unfolding misshapen explain_answer
misshapen-first = refl
