-- Parts of a run: a stretch of it, a list in it, its numbers as bytes; and what is asked of all its numbers. Assumes nothing.
-- The head of the first list: "A text, and any other list, is its length and its numbers."
use Rattle.std.specs.Prelude.{Bool, cond, ◌&&◌, ◌||◌, nat_eq, List, [], ℕ, ◌+◌, ◌-◌, ◌%◌, eqb, ltb, leb, length, get_or, take, drop}
use Rattle.std.specs.List.{list_all, range_with_len}
use Rattle.std.specs.Cmp.Lexicographic.{pointwise}
use Rattle.common.specs.Rules.{tabulate}

-- the elements from place a up to, not including, place e; none where these aren't bounds
abbrev pub numbers_between : {A : Type 0} → List A → ℕ → ℕ → List A
numbers_between s a e = cond (leb a e && leb e (length s)) (take (e - a) (drop a s)) []

-- where the list ends whose count stands at a: behind so many numbers, or at the run's end
abbrev pub after_list : List ℕ → ℕ → ℕ
after_list s a = cond (ltb a (length s) && ltb (get_or s a 0) (length s - a)) (a + 1 + get_or s a 0) (length s)

-- the elements of the list whose count stands at a and which ends at e
abbrev pub list_in : {A : Type 0} → List A → ℕ → ℕ → List A
list_in s a e = numbers_between s (a + 1) e

-- a number as a byte
abbrev pub byte_at : List ℕ → ℕ → ℕ
byte_at s i = get_or s i 0 % 256

-- the values of f before e in a list of n, and 0 from there on
unfoldable pub front : (ℕ → ℕ) → ℕ → ℕ → List ℕ
front f e n = tabulate (λ k. cond (ltb k e) (f k) 0) n 0

-- all numbers of a line as bytes, each at its place
abbrev pub bytes_of : List ℕ → List ℕ
bytes_of s = front (byte_at s) 128 128

-- whether a test holds for all numbers below n
abbrev pub every : (ℕ → Bool) → ℕ → Bool
every t n = list_all t (range_with_len 0 n)

-- whether place k is the second of a pair
abbrev pub is_second : Bool → ℕ → Bool
is_second pairs k = pairs && eqb (k % 2) 1

-- whether a number is a byte; of pairs only the first is asked
abbrev pub is_byte : List ℕ → Bool → ℕ → Bool
is_byte s pairs k = is_second pairs k || ltb (get_or s k 0) 256

abbrev pub are_bytes : List ℕ → Bool → Bool
are_bytes s pairs = every (is_byte s pairs) (length s)

-- whether two runs are the same
abbrev pub same : List ℕ → List ℕ → Bool
same a b = pointwise nat_eq a b
