-- The marked examples as rows of one table, and what a row says. Assumes nothing.
-- The page: the section "Marked examples".
use Rattle.std.specs.Prelude.{◌≡◌, List, [], ◌∷◌, ℕ}
use Rattle.common.specs.Entry.{flatten, room, over, wide}
use Rattle.common.specs.Grammars.{house, house_numbers}
use Rattle.common.specs.Refusals.{given, refused, span_values}
use Rattle.fence.specs.Fence.{fences}
use Rattle.block_numbered.specs.Numbered.{numbers, values}
use Rattle.cont.specs.Frames.{frames}
use Rattle.listing.specs.Listing.{house_rules, house_regions, house_fence, house_framing}
use Rattle.amend.specs.Amended.{edit, Amended}
use Rattle.region.specs.Region.{row_of}

-- a text with the list of its regions; with its fences of a byte, start and end each; with its numbered items, start, end, delimiter and
-- number each; with its frames to a depth, start and end each; with two cuts, a replacement and the list that amending its own list
-- leaves, or the refusal
pub data Row : Type 0 where
  listed : List ℕ → List ℕ → Row
  has_fences : ℕ → List ℕ → List ℕ → Row
  has_numbers : List ℕ → List ℕ → Row
  framed : ℕ → List ℕ → List ℕ → Row
  mended : List ℕ → ℕ → ℕ → List ℕ → List ℕ → Row
  refusing : List ℕ → ℕ → ℕ → List ℕ → ℕ → Row

-- the list that building leaves of a text
abbrev pub own : List ℕ → List ℕ
own s = flatten row_of (house_regions s)

-- a run with room for four regions
abbrev pub zeros : List ℕ
zeros = 0 ∷ 0 ∷ 0 ∷ 0 ∷ 0 ∷ 0 ∷ 0 ∷ 0 ∷ []

-- what a row says
abbrev pub Says : Row → Type 0
Says (listed s l) = own s ≡ l
Says (has_fences byte s l) = flatten span_values (fences (house_fence byte) s) ≡ l
Says (has_numbers s l) = flatten values (numbers house_numbers s) ≡ l
Says (framed nest s l) = flatten span_values (frames (house_framing nest) s) ≡ l
Says (mended s a b r l) = Amended house house_rules s (own s) (room wide (own s)) (edit a b r) zeros (over l zeros) (given (room wide l ∷ []))
Says (refusing s a b r n) = Amended house house_rules s (own s) (room wide (own s)) (edit a b r) zeros zeros (refused n)

-- the texts of P11 (`a`, an empty line, ~~~, b, ~~~, an empty line, <c>) and of P12 (~~~, an empty line, ~~~)
abbrev pub eleventh : List ℕ
eleventh = 96 ∷ 97 ∷ 96 ∷ 10 ∷ 10 ∷ 126 ∷ 126 ∷ 126 ∷ 10 ∷ 98 ∷ 10 ∷ 126 ∷ 126 ∷ 126 ∷ 10 ∷ 10 ∷ 60 ∷ 99 ∷ 62 ∷ []

abbrev pub twelfth : List ℕ
twelfth = 126 ∷ 126 ∷ 126 ∷ 10 ∷ 10 ∷ 126 ∷ 126 ∷ 126 ∷ 10 ∷ []

-- the examples, in the page's order (10 line end, 32 space, 60 <, 62 >, 92 backslash, 96 backtick, 97 a, 98 b, 99 c, 120 x, 126 tilde; 46 full stop, 48 to 57 the digits)
abbrev pub page : List Row
page =
    -- P1: the empty text
    listed [] []
    -- P2: ~~~
    ∷ listed (126 ∷ 126 ∷ 126 ∷ []) (0 ∷ 3 ∷ [])
    ∷ has_fences 126 (126 ∷ 126 ∷ 126 ∷ []) (0 ∷ 3 ∷ [])
    -- P3: ~~
    ∷ listed (126 ∷ 126 ∷ []) []
    ∷ has_fences 126 (126 ∷ 126 ∷ []) []
    -- P4: a `b` c
    ∷ listed (97 ∷ 32 ∷ 96 ∷ 98 ∷ 96 ∷ 32 ∷ 99 ∷ []) (2 ∷ 5 ∷ [])
    -- P5: \`a`
    ∷ listed (92 ∷ 96 ∷ 97 ∷ 96 ∷ []) []
    -- P6: <a, b>, over one line end and over two
    ∷ listed (60 ∷ 97 ∷ 10 ∷ 98 ∷ 62 ∷ []) (0 ∷ 5 ∷ [])
    ∷ listed (60 ∷ 97 ∷ 10 ∷ 10 ∷ 98 ∷ 62 ∷ []) []
    -- P7: <a, ~~~, b>
    ∷ listed (60 ∷ 97 ∷ 10 ∷ 126 ∷ 126 ∷ 126 ∷ 10 ∷ 98 ∷ 62 ∷ 10 ∷ []) (3 ∷ 10 ∷ [])
    -- P8: ~~~~, ~~~, ~~~~ and a space
    ∷ listed (126 ∷ 126 ∷ 126 ∷ 126 ∷ 10 ∷ 126 ∷ 126 ∷ 126 ∷ 10 ∷ 126 ∷ 126 ∷ 126 ∷ 126 ∷ 32 ∷ 10 ∷ []) (0 ∷ 14 ∷ [])
    ∷ has_fences 126 (126 ∷ 126 ∷ 126 ∷ 126 ∷ 10 ∷ 126 ∷ 126 ∷ 126 ∷ 10 ∷ 126 ∷ 126 ∷ 126 ∷ 126 ∷ 32 ∷ 10 ∷ []) (0 ∷ 15 ∷ [])
    -- P9: 123456789. x, and one digit more
    ∷ has_numbers (49 ∷ 50 ∷ 51 ∷ 52 ∷ 53 ∷ 54 ∷ 55 ∷ 56 ∷ 57 ∷ 46 ∷ 32 ∷ 120 ∷ []) (11 ∷ 12 ∷ 46 ∷ 123456789 ∷ [])
    ∷ has_numbers (49 ∷ 50 ∷ 51 ∷ 52 ∷ 53 ∷ 54 ∷ 55 ∷ 56 ∷ 57 ∷ 48 ∷ 46 ∷ 32 ∷ 120 ∷ []) []
    -- P10: > > a, to depth 8, 1 and 0
    ∷ framed 8 (62 ∷ 32 ∷ 62 ∷ 32 ∷ 97 ∷ []) (2 ∷ 5 ∷ 0 ∷ 5 ∷ [])
    ∷ framed 1 (62 ∷ 32 ∷ 62 ∷ 32 ∷ 97 ∷ []) (0 ∷ 5 ∷ [])
    ∷ framed 0 (62 ∷ 32 ∷ 62 ∷ 32 ∷ 97 ∷ []) []
    -- P11: cuts 5 and 16 with nothing, and with ~~~ and an empty line; first cut 9; cuts 5 and 19 with ~~~
    ∷ listed eleventh (0 ∷ 3 ∷ 5 ∷ 14 ∷ 16 ∷ 19 ∷ [])
    ∷ mended eleventh 5 16 [] (0 ∷ 3 ∷ 5 ∷ 8 ∷ [])
    ∷ refusing eleventh 5 16 (126 ∷ 126 ∷ 126 ∷ 10 ∷ 10 ∷ []) 8
    ∷ refusing eleventh 9 16 [] 7
    ∷ mended eleventh 5 19 (126 ∷ 126 ∷ 126 ∷ []) (0 ∷ 3 ∷ 5 ∷ 8 ∷ [])
    -- P12: cut 5
    ∷ listed twelfth (0 ∷ 8 ∷ [])
    ∷ refusing twelfth 5 5 [] 7
    ∷ []
