-- What is read and what is written, and each refusal, computed from the definitions. Assumes nothing.
-- Request 4: "list shape 5; not this JSON 10, with the place of the first byte that can't continue a file of this form, list shape aside, or the length of a file
-- that breaks off; no room 3. In that order, except that 10 comes first when reading."
use Rattle.std.specs.Prelude.{◌≡◌, refl, [], ◌∷◌, replicate}
use Rattle.search.specs.Search.{digit}
use Rattle.decimal.specs.Decimal.{decimal_by, decimal}
use Rattle.common.specs.Entry.{wide}
use Rattle.common.specs.Refusals.{given, refused}
use Rattle.cover.specs.Shape.{misshapen}
use Rattle.json_file.specs.Form.{phase_move, span, follow, broken_at}
use Rattle.json_file.specs.Layout.{object_of, objects_of, layout}
use Rattle.json_file.specs.Records.{write_answer, broken, records_in, read_answer}

-- ---- what is read
-- `[]`
no_regions : read_answer wide (91 ∷ 93 ∷ []) [] ≡ given (0 ∷ [])
unfolding digit phase_move follow broken_at read_answer
no_regions = refl

-- `[{"start":0,"end":3}]`
one_region : read_answer wide (91 ∷ 123 ∷ 34 ∷ 115 ∷ 116 ∷ 97 ∷ 114 ∷ 116 ∷ 34 ∷ 58 ∷ 48 ∷ 44 ∷ 34 ∷ 101 ∷ 110 ∷ 100 ∷ 34 ∷ 58 ∷ 51 ∷ 125 ∷ 93 ∷ []) (0 ∷ 0 ∷ []) ≡ given (1 ∷ [])
unfolding digit phase_move follow broken_at read_answer
one_region = refl

-- members in either order: `[{"end":3,"start":0}]`
either_order : read_answer wide (91 ∷ 123 ∷ 34 ∷ 101 ∷ 110 ∷ 100 ∷ 34 ∷ 58 ∷ 51 ∷ 44 ∷ 34 ∷ 115 ∷ 116 ∷ 97 ∷ 114 ∷ 116 ∷ 34 ∷ 58 ∷ 48 ∷ 125 ∷ 93 ∷ []) (0 ∷ 0 ∷ []) ≡ given (1 ∷ [])
unfolding digit phase_move follow broken_at read_answer
either_order = refl

-- white space wherever the RFC allows it: ` [\t{\n"start"\r: 1 ,\t"end"\n:\r2 } ]\n`
white_everywhere : read_answer wide (32 ∷ 91 ∷ 9 ∷ 123 ∷ 10 ∷ 34 ∷ 115 ∷ 116 ∷ 97 ∷ 114 ∷ 116 ∷ 34 ∷ 13 ∷ 58 ∷ 32 ∷ 49 ∷ 32 ∷ 44 ∷ 9 ∷ 34 ∷ 101 ∷ 110 ∷ 100 ∷ 34 ∷ 10 ∷ 58 ∷ 13 ∷ 50 ∷ 32 ∷ 125 ∷ 32 ∷ 93 ∷ 10 ∷ []) (0 ∷ 0 ∷ []) ≡ given (1 ∷ [])
unfolding digit phase_move follow broken_at read_answer
white_everywhere = refl

-- the greatest number: `[{"start":0,"end":4294967295}]`
greatest-read : read_answer wide (91 ∷ 123 ∷ 34 ∷ 115 ∷ 116 ∷ 97 ∷ 114 ∷ 116 ∷ 34 ∷ 58 ∷ 48 ∷ 44 ∷ 34 ∷ 101 ∷ 110 ∷ 100 ∷ 34 ∷ 58 ∷ 52 ∷ 50 ∷ 57 ∷ 52 ∷ 57 ∷ 54 ∷ 55 ∷ 50 ∷ 57 ∷ 53 ∷ 125 ∷ 93 ∷ []) (0 ∷ 0 ∷ []) ≡ given (1 ∷ [])
unfolding digit phase_move follow broken_at read_answer
greatest-read = refl

-- regions that touch: `[{"start":0,"end":3},{"start":3,"end":5}]`
touching : read_answer wide (91 ∷ 123 ∷ 34 ∷ 115 ∷ 116 ∷ 97 ∷ 114 ∷ 116 ∷ 34 ∷ 58 ∷ 48 ∷ 44 ∷ 34 ∷ 101 ∷ 110 ∷ 100 ∷ 34 ∷ 58 ∷ 51 ∷ 125 ∷ 44 ∷ 123 ∷ 34 ∷ 115 ∷ 116 ∷ 97 ∷ 114 ∷ 116 ∷ 34 ∷ 58 ∷ 51 ∷ 44 ∷ 34 ∷ 101 ∷ 110 ∷ 100 ∷ 34 ∷ 58 ∷ 53 ∷ 125 ∷ 93 ∷ []) (0 ∷ 0 ∷ 0 ∷ 0 ∷ []) ≡ given (2 ∷ [])
unfolding digit phase_move follow broken_at read_answer
touching = refl

-- the regions of `[{"end":3,"start":0},{"start":5,"end":9}]`
either-list : records_in (91 ∷ 123 ∷ 34 ∷ 101 ∷ 110 ∷ 100 ∷ 34 ∷ 58 ∷ 51 ∷ 44 ∷ 34 ∷ 115 ∷ 116 ∷ 97 ∷ 114 ∷ 116 ∷ 34 ∷ 58 ∷ 48 ∷ 125 ∷ 44 ∷ 123 ∷ 34 ∷ 115 ∷ 116 ∷ 97 ∷ 114 ∷ 116 ∷ 34 ∷ 58 ∷ 53 ∷ 44 ∷ 34 ∷ 101 ∷ 110 ∷ 100 ∷ 34 ∷ 58 ∷ 57 ∷ 125 ∷ 93 ∷ []) ≡ span 0 3 ∷ span 5 9 ∷ []
unfolding digit phase_move follow
either-list = refl

-- ---- 10: the first byte that can't continue
-- a number over the greatest, at its tenth digit: `[{"start":4294967296`
one_over : read_answer wide (91 ∷ 123 ∷ 34 ∷ 115 ∷ 116 ∷ 97 ∷ 114 ∷ 116 ∷ 34 ∷ 58 ∷ 52 ∷ 50 ∷ 57 ∷ 52 ∷ 57 ∷ 54 ∷ 55 ∷ 50 ∷ 57 ∷ 54 ∷ []) (0 ∷ 0 ∷ []) ≡ broken 19
unfolding digit phase_move follow broken_at read_answer
one_over = refl

-- another one: `[{"start":5000000000`
far_over : read_answer wide (91 ∷ 123 ∷ 34 ∷ 115 ∷ 116 ∷ 97 ∷ 114 ∷ 116 ∷ 34 ∷ 58 ∷ 53 ∷ 48 ∷ 48 ∷ 48 ∷ 48 ∷ 48 ∷ 48 ∷ 48 ∷ 48 ∷ 48 ∷ []) (0 ∷ 0 ∷ []) ≡ broken 19
unfolding digit phase_move follow broken_at read_answer
far_over = refl

-- a second digit behind a 0: `[{"start":01`
leading_zero : read_answer wide (91 ∷ 123 ∷ 34 ∷ 115 ∷ 116 ∷ 97 ∷ 114 ∷ 116 ∷ 34 ∷ 58 ∷ 48 ∷ 49 ∷ []) (0 ∷ 0 ∷ []) ≡ broken 11
unfolding digit phase_move follow broken_at read_answer
leading_zero = refl

-- the `s` of a second "start": `[{"start":1,"start":2}]`
second_start : read_answer wide (91 ∷ 123 ∷ 34 ∷ 115 ∷ 116 ∷ 97 ∷ 114 ∷ 116 ∷ 34 ∷ 58 ∷ 49 ∷ 44 ∷ 34 ∷ 115 ∷ 116 ∷ 97 ∷ 114 ∷ 116 ∷ 34 ∷ 58 ∷ 50 ∷ 125 ∷ 93 ∷ []) (0 ∷ 0 ∷ []) ≡ broken 13
unfolding digit phase_move follow broken_at read_answer
second_start = refl

-- `}` behind one member: `[{"start":1}]`
one_member : read_answer wide (91 ∷ 123 ∷ 34 ∷ 115 ∷ 116 ∷ 97 ∷ 114 ∷ 116 ∷ 34 ∷ 58 ∷ 49 ∷ 125 ∷ 93 ∷ []) (0 ∷ 0 ∷ []) ≡ broken 11
unfolding digit phase_move follow broken_at read_answer
one_member = refl

-- a comma behind both: `[{"start":1,"end":2,`
three_members : read_answer wide (91 ∷ 123 ∷ 34 ∷ 115 ∷ 116 ∷ 97 ∷ 114 ∷ 116 ∷ 34 ∷ 58 ∷ 49 ∷ 44 ∷ 34 ∷ 101 ∷ 110 ∷ 100 ∷ 34 ∷ 58 ∷ 50 ∷ 44 ∷ []) (0 ∷ 0 ∷ []) ≡ broken 19
unfolding digit phase_move follow broken_at read_answer
three_members = refl

-- `}` behind none: `[{}]`
no_members : read_answer wide (91 ∷ 123 ∷ 125 ∷ 93 ∷ []) (0 ∷ 0 ∷ []) ≡ broken 2
unfolding digit phase_move follow broken_at read_answer
no_members = refl

-- `]` behind a comma: `[{"start":1,"end":2},]`
last_comma : read_answer wide (91 ∷ 123 ∷ 34 ∷ 115 ∷ 116 ∷ 97 ∷ 114 ∷ 116 ∷ 34 ∷ 58 ∷ 49 ∷ 44 ∷ 34 ∷ 101 ∷ 110 ∷ 100 ∷ 34 ∷ 58 ∷ 50 ∷ 125 ∷ 44 ∷ 93 ∷ []) (0 ∷ 0 ∷ []) ≡ broken 21
unfolding digit phase_move follow broken_at read_answer
last_comma = refl

-- a comma before any object: `[,`
first_comma : read_answer wide (91 ∷ 44 ∷ []) (0 ∷ 0 ∷ []) ≡ broken 1
unfolding digit phase_move follow broken_at read_answer
first_comma = refl

-- a byte-order mark before `[]`
order_mark : read_answer wide (239 ∷ 187 ∷ 191 ∷ 91 ∷ 93 ∷ []) [] ≡ broken 0
unfolding digit phase_move follow broken_at read_answer
order_mark = refl

-- a sign: `[{"start":-1`
signed : read_answer wide (91 ∷ 123 ∷ 34 ∷ 115 ∷ 116 ∷ 97 ∷ 114 ∷ 116 ∷ 34 ∷ 58 ∷ 45 ∷ 49 ∷ []) (0 ∷ 0 ∷ []) ≡ broken 10
unfolding digit phase_move follow broken_at read_answer
signed = refl

-- a fraction: `[{"start":1.0`
fraction : read_answer wide (91 ∷ 123 ∷ 34 ∷ 115 ∷ 116 ∷ 97 ∷ 114 ∷ 116 ∷ 34 ∷ 58 ∷ 49 ∷ 46 ∷ 48 ∷ []) (0 ∷ 0 ∷ []) ≡ broken 11
unfolding digit phase_move follow broken_at read_answer
fraction = refl

-- an exponent: `[{"start":1e2`
exponent : read_answer wide (91 ∷ 123 ∷ 34 ∷ 115 ∷ 116 ∷ 97 ∷ 114 ∷ 116 ∷ 34 ∷ 58 ∷ 49 ∷ 101 ∷ 50 ∷ []) (0 ∷ 0 ∷ []) ≡ broken 11
unfolding digit phase_move follow broken_at read_answer
exponent = refl

-- a number in quotes: `[{"start":"1"`
quoted_number : read_answer wide (91 ∷ 123 ∷ 34 ∷ 115 ∷ 116 ∷ 97 ∷ 114 ∷ 116 ∷ 34 ∷ 58 ∷ 34 ∷ 49 ∷ 34 ∷ []) (0 ∷ 0 ∷ []) ≡ broken 10
unfolding digit phase_move follow broken_at read_answer
quoted_number = refl

-- the backslash of an escape: `[{"st\u0061rt":1`
escaped : read_answer wide (91 ∷ 123 ∷ 34 ∷ 115 ∷ 116 ∷ 92 ∷ 117 ∷ 48 ∷ 48 ∷ 54 ∷ 49 ∷ 114 ∷ 116 ∷ 34 ∷ 58 ∷ 49 ∷ []) (0 ∷ 0 ∷ []) ≡ broken 5
unfolding digit phase_move follow broken_at read_answer
escaped = refl

-- another name: `[{"stop":1`
other_name : read_answer wide (91 ∷ 123 ∷ 34 ∷ 115 ∷ 116 ∷ 111 ∷ 112 ∷ 34 ∷ 58 ∷ 49 ∷ []) (0 ∷ 0 ∷ []) ≡ broken 5
unfolding digit phase_move follow broken_at read_answer
other_name = refl

-- white space in a name: `[{" start":1`
space_in_name : read_answer wide (91 ∷ 123 ∷ 34 ∷ 32 ∷ 115 ∷ 116 ∷ 97 ∷ 114 ∷ 116 ∷ 34 ∷ 58 ∷ 49 ∷ []) (0 ∷ 0 ∷ []) ≡ broken 3
unfolding digit phase_move follow broken_at read_answer
space_in_name = refl

-- something behind the array: `[] []`
another_array : read_answer wide (91 ∷ 93 ∷ 32 ∷ 91 ∷ 93 ∷ []) [] ≡ broken 3
unfolding digit phase_move follow broken_at read_answer
another_array = refl

-- no array: `{"start":1,"end":2}`
no_array : read_answer wide (123 ∷ 34 ∷ 115 ∷ 116 ∷ 97 ∷ 114 ∷ 116 ∷ 34 ∷ 58 ∷ 49 ∷ 44 ∷ 34 ∷ 101 ∷ 110 ∷ 100 ∷ 34 ∷ 58 ∷ 50 ∷ 125 ∷ []) (0 ∷ 0 ∷ []) ≡ broken 0
unfolding digit phase_move follow broken_at read_answer
no_array = refl

-- ---- 10: the length of a file that breaks off
-- the empty file
empty_file : read_answer wide [] [] ≡ broken 0
unfolding digit phase_move follow broken_at read_answer
empty_file = refl

-- white space alone
white_alone : read_answer wide (32 ∷ 10 ∷ []) [] ≡ broken 2
unfolding digit phase_move follow broken_at read_answer
white_alone = refl

-- `[{"sta`
in_a_name : read_answer wide (91 ∷ 123 ∷ 34 ∷ 115 ∷ 116 ∷ 97 ∷ []) (0 ∷ 0 ∷ []) ≡ broken 6
unfolding digit phase_move follow broken_at read_answer
in_a_name = refl

-- `[{"start":1`
in_a_number : read_answer wide (91 ∷ 123 ∷ 34 ∷ 115 ∷ 116 ∷ 97 ∷ 114 ∷ 116 ∷ 34 ∷ 58 ∷ 49 ∷ []) (0 ∷ 0 ∷ []) ≡ broken 11
unfolding digit phase_move follow broken_at read_answer
in_a_number = refl

-- `[{"start":1,"end":2}`
unclosed : read_answer wide (91 ∷ 123 ∷ 34 ∷ 115 ∷ 116 ∷ 97 ∷ 114 ∷ 116 ∷ 34 ∷ 58 ∷ 49 ∷ 44 ∷ 34 ∷ 101 ∷ 110 ∷ 100 ∷ 34 ∷ 58 ∷ 50 ∷ 125 ∷ []) (0 ∷ 0 ∷ []) ≡ broken 20
unfolding digit phase_move follow broken_at read_answer
unclosed = refl

-- ---- 10, then 5, then 3
-- regions that overlap: `[{"start":0,"end":3},{"start":2,"end":5}]`
overlapping : read_answer wide (91 ∷ 123 ∷ 34 ∷ 115 ∷ 116 ∷ 97 ∷ 114 ∷ 116 ∷ 34 ∷ 58 ∷ 48 ∷ 44 ∷ 34 ∷ 101 ∷ 110 ∷ 100 ∷ 34 ∷ 58 ∷ 51 ∷ 125 ∷ 44 ∷ 123 ∷ 34 ∷ 115 ∷ 116 ∷ 97 ∷ 114 ∷ 116 ∷ 34 ∷ 58 ∷ 50 ∷ 44 ∷ 34 ∷ 101 ∷ 110 ∷ 100 ∷ 34 ∷ 58 ∷ 53 ∷ 125 ∷ 93 ∷ []) (0 ∷ 0 ∷ 0 ∷ 0 ∷ []) ≡ refused 5
unfolding digit phase_move follow broken_at read_answer
overlapping = refl

-- out of order: `[{"start":3,"end":5},{"start":0,"end":2}]`
unsorted : read_answer wide (91 ∷ 123 ∷ 34 ∷ 115 ∷ 116 ∷ 97 ∷ 114 ∷ 116 ∷ 34 ∷ 58 ∷ 51 ∷ 44 ∷ 34 ∷ 101 ∷ 110 ∷ 100 ∷ 34 ∷ 58 ∷ 53 ∷ 125 ∷ 44 ∷ 123 ∷ 34 ∷ 115 ∷ 116 ∷ 97 ∷ 114 ∷ 116 ∷ 34 ∷ 58 ∷ 48 ∷ 44 ∷ 34 ∷ 101 ∷ 110 ∷ 100 ∷ 34 ∷ 58 ∷ 50 ∷ 125 ∷ 93 ∷ []) (0 ∷ 0 ∷ 0 ∷ 0 ∷ []) ≡ refused 5
unfolding digit phase_move follow broken_at read_answer
unsorted = refl

-- an empty region: `[{"start":3,"end":3}]`
empty_region : read_answer wide (91 ∷ 123 ∷ 34 ∷ 115 ∷ 116 ∷ 97 ∷ 114 ∷ 116 ∷ 34 ∷ 58 ∷ 51 ∷ 44 ∷ 34 ∷ 101 ∷ 110 ∷ 100 ∷ 34 ∷ 58 ∷ 51 ∷ 125 ∷ 93 ∷ []) (0 ∷ 0 ∷ []) ≡ refused 5
unfolding digit phase_move follow broken_at read_answer
empty_region = refl

-- two regions where one has room: `[{"start":0,"end":3},{"start":3,"end":5}]`
no_room : read_answer wide (91 ∷ 123 ∷ 34 ∷ 115 ∷ 116 ∷ 97 ∷ 114 ∷ 116 ∷ 34 ∷ 58 ∷ 48 ∷ 44 ∷ 34 ∷ 101 ∷ 110 ∷ 100 ∷ 34 ∷ 58 ∷ 51 ∷ 125 ∷ 44 ∷ 123 ∷ 34 ∷ 115 ∷ 116 ∷ 97 ∷ 114 ∷ 116 ∷ 34 ∷ 58 ∷ 51 ∷ 44 ∷ 34 ∷ 101 ∷ 110 ∷ 100 ∷ 34 ∷ 58 ∷ 53 ∷ 125 ∷ 93 ∷ []) (0 ∷ 0 ∷ 0 ∷ []) ≡ refused 3
unfolding digit phase_move follow broken_at read_answer
no_room = refl

-- no list either, and no room: `[{"start":3,"end":0}`
ten_before_five : read_answer wide (91 ∷ 123 ∷ 34 ∷ 115 ∷ 116 ∷ 97 ∷ 114 ∷ 116 ∷ 34 ∷ 58 ∷ 51 ∷ 44 ∷ 34 ∷ 101 ∷ 110 ∷ 100 ∷ 34 ∷ 58 ∷ 48 ∷ 125 ∷ []) [] ≡ broken 20
unfolding digit phase_move follow broken_at read_answer
ten_before_five = refl

-- no room either: `[{"start":3,"end":0}]`
five_before_three : read_answer wide (91 ∷ 123 ∷ 34 ∷ 115 ∷ 116 ∷ 97 ∷ 114 ∷ 116 ∷ 34 ∷ 58 ∷ 51 ∷ 44 ∷ 34 ∷ 101 ∷ 110 ∷ 100 ∷ 34 ∷ 58 ∷ 48 ∷ 125 ∷ 93 ∷ []) [] ≡ refused 5
unfolding digit phase_move follow broken_at read_answer
five_before_three = refl

-- ---- writing
-- `[{"start":0,"end":3},{"start":5,"end":9}]`
two_regions : layout (span 0 3 ∷ span 5 9 ∷ []) ≡ 91 ∷ 123 ∷ 34 ∷ 115 ∷ 116 ∷ 97 ∷ 114 ∷ 116 ∷ 34 ∷ 58 ∷ 48 ∷ 44 ∷ 34 ∷ 101 ∷ 110 ∷ 100 ∷ 34 ∷ 58 ∷ 51 ∷ 125 ∷ 44 ∷ 123 ∷ 34 ∷ 115 ∷ 116 ∷ 97 ∷ 114 ∷ 116 ∷ 34 ∷ 58 ∷ 53 ∷ 44 ∷ 34 ∷ 101 ∷ 110 ∷ 100 ∷ 34 ∷ 58 ∷ 57 ∷ 125 ∷ 93 ∷ []
unfolding decimal_by decimal object_of objects_of layout
two_regions = refl

-- `[]`
none_written : layout [] ≡ 91 ∷ 93 ∷ []
unfolding objects_of layout
none_written = refl

-- both of them, where all of it fits
written : write_answer (0 ∷ 3 ∷ 5 ∷ 9 ∷ []) 2 (replicate 41 0) ≡ given (41 ∷ [])
unfolding decimal_by decimal object_of objects_of layout misshapen write_answer
written = refl

-- a byte less of room
not_written : write_answer (0 ∷ 3 ∷ 5 ∷ 9 ∷ []) 2 (replicate 40 0) ≡ refused 3
unfolding decimal_by decimal object_of objects_of layout misshapen write_answer
not_written = refl

-- the first one
one_written : write_answer (0 ∷ 3 ∷ 5 ∷ 9 ∷ []) 1 (replicate 40 0) ≡ given (21 ∷ [])
unfolding decimal_by decimal object_of objects_of layout misshapen write_answer
one_written = refl

-- a count over the list's room; and no room either
too_many : write_answer (0 ∷ 3 ∷ 5 ∷ 9 ∷ 12 ∷ []) 3 (replicate 40 0) ≡ refused 5
unfolding decimal_by decimal object_of objects_of layout misshapen write_answer
too_many = refl

-- out of order
unwritten_shape : write_answer (5 ∷ 9 ∷ 0 ∷ 3 ∷ []) 2 (replicate 41 0) ≡ refused 5
unfolding decimal_by decimal object_of objects_of layout misshapen write_answer
unwritten_shape = refl
