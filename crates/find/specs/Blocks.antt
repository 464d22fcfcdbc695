-- Searches that go by blocks: the tests of a byte that they make, and what each stage promises. Assumes nothing.
-- The page: "`memchr`, `crate::swar::find_any` and `crate::span::Span` are only called there; here they are plain searches": these are
-- proved equal to those.
use Rattle.std.specs.Prelude.{◌≡◌, Bool, true, false, ◌||◌, List, ℕ, ◌+◌, ◌≤◌, ◌<◌, min, eqb, length, get_or}
use Rattle.find.specs.declared.blocks.Three.{Three}
use Rattle.find.specs.declared.blocks.Twelve.{Twelve}
use Rattle.search.specs.Search.{find}

-- ---- tests of a byte
-- whether it is one of three
unfoldable pub of_three : Three → ℕ → Bool
of_three t x = (eqb x t.a || eqb x t.b) || eqb x t.c

-- whether it is one of four times three
unfoldable pub of_twelve : Twelve → ℕ → Bool
of_twelve k x = ((of_three k.first x || of_three k.second x) || of_three k.third x) || of_three k.fourth x

-- ---- needles in places
-- the number of a list at place j, else its first
unfoldable pub needle_at : List ℕ → ℕ → ℕ
needle_at l j = get_or l j (get_or l 0 0)

-- three of them, from place k on
abbrev pub trio_of : List ℕ → ℕ → Three
trio_of l k = record { a = needle_at l k; b = needle_at l (k + 1); c = needle_at l (k + 2) }

-- the first n numbers of a list are one at the least, and w at the most
pub record NeedleCount (l : List ℕ) (n w : ℕ) : Type 0 where
  pub some : 0 < n
  pub there : 0 < length l
  pub most : min n (length l) ≤ w

-- the place of a hit within a block of 32, and 32 for a miss
unfoldable pub hit_place : Bool → ℕ → ℕ
hit_place true j = j
hit_place false j = 32

-- what is promised of it: j is a place of the block
pub record Placed (hit : Bool) (j r : ℕ) : Type 0 where
  pub inside : j < 32
  pub answer : r ≡ hit_place hit j

-- ---- what a stage promises
-- a filter: where it says no, the search from i goes on after w bytes
pub record Clear (t : ℕ → Bool) (s : List ℕ) (i w : ℕ) (r : Bool) : Type 0 where
  pub clear : r ≡ false → find t s i ≡ find t s (i + w)

-- a search from i up to e: an answer before e is the search's, and else the search goes on from e
pub record Stage (t : ℕ → Bool) (s : List ℕ) (i e r : ℕ) : Type 0 where
  pub low : i ≤ r
  pub high : r ≤ e
  pub before : r < e → find t s i ≡ r
  pub after : e ≤ r → find t s i ≡ find t s e

-- a place at or before e from which the search from i goes on
pub record Reaches (t : ℕ → Bool) (s : List ℕ) (i e k : ℕ) : Type 0 where
  pub low : i ≤ k
  pub high : k ≤ e
  pub same : find t s i ≡ find t s k
