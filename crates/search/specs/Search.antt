-- Tests of bytes, searches forward and back, and lines: what each search answers. Assumes nothing.
-- The page: "`memchr`, `crate::swar::find_any` … here they are plain searches", "`find_line_end`: first line-end byte at or after a
-- place, else the length. `count_escape`: run of escape bytes just before."
use Rattle.std.specs.Prelude.{◌≡◌, Bool, true, false, not, ◌||◌, ◌&&◌, List, [], ◌∷◌, ℕ, zero, suc, ◌+◌, ◌-◌, ◌≤◌, min, max, eqb, ltb, leb, length, get_or}

-- ---- tests of a byte
-- whether it is b
unfoldable pub is : ℕ → ℕ → Bool
is b x = eqb x b

-- whether it is b or c
unfoldable pub either : ℕ → ℕ → ℕ → Bool
either b c x = eqb x b || eqb x c

-- whether it is one of a list
unfoldable pub one_of : List ℕ → ℕ → Bool
one_of [] x = false
one_of (y ∷ ys) x = eqb x y || one_of ys x

-- "ASCII digits": whether it is one
unfoldable pub digit : ℕ → Bool
digit x = leb 48 x && leb x 57

-- whether it fails a test
unfoldable pub other : (ℕ → Bool) → ℕ → Bool
other t x = not (t x)

-- whether a text has a byte at place k, and the byte passes a test
unfoldable pub holds : (ℕ → Bool) → List ℕ → ℕ → Bool
holds t s k = ltb k (length s) && t (get_or s k 0)

-- ---- forward
-- the first of n places from q on at which a test of places holds, else the place after them
unfoldable pub first_of : (ℕ → Bool) → ℕ → ℕ → ℕ
first_of t zero q = q
first_of t (suc n) q = elim (t q) [ true ↦ q | false ↦ first_of t n (suc q) ]

-- the first place from q on and before e at which a test holds, else e; where q is past e, q
unfoldable pub first_place : (ℕ → Bool) → ℕ → ℕ → ℕ
first_place t q e = first_of t (e - q) q

-- the first place of a text from i on whose byte passes a test, else the text's end
unfoldable pub find : (ℕ → Bool) → List ℕ → ℕ → ℕ
find t s i = first_place (holds t s) i (length s)

-- the end of the run of b that begins at p: the first place from p on with another byte, else the text's end
abbrev pub after_run : ℕ → List ℕ → ℕ → ℕ
after_run b s p = find (other (is b)) s p

-- what a search promises: the place, with its bounds
pub record Sought (t : ℕ → Bool) (s : List ℕ) (i r : ℕ) : Type 0 where
  pub here : r ≡ find t s i
  pub low : i ≤ r
  pub high : r ≤ max i (length s)

-- ---- back
-- the length of the run of bytes that pass a test and end just before a place
unfoldable pub back : (ℕ → Bool) → List ℕ → ℕ → ℕ
back t s zero = zero
back t s (suc k) = elim (holds t s k) [ true ↦ suc (back t s k) | false ↦ zero ]

-- ---- lines
-- whether a line begins at p: at place 0, or just after a line end
unfoldable pub line_start : ℕ → List ℕ → ℕ → Bool
line_start eol s zero = true
line_start eol s (suc k) = holds (is eol) s k

-- the end of the line that p is in: the first line end at or after p, else the text's end
abbrev pub line_end : ℕ → List ℕ → ℕ → ℕ
line_end eol s p = find (is eol) s p

-- the place after a line's end e, in a text of a length
abbrev pub next_line : ℕ → ℕ → ℕ
next_line len e = min (e + 1) len

-- the place after the line that p is in: just after its line end, else the text's end
abbrev pub after_line : ℕ → List ℕ → ℕ → ℕ
after_line eol s p = next_line (length s) (line_end eol s p)
