-- What is put at a place of a run. Assumes nothing.
-- The page names no run: what lies past its end is counted and not written.
use Rattle.std.specs.Prelude.{◌≡◌, List, ℕ, ◌+◌, ◌≤◌, length}
use Rattle.common.specs.Entry.{put_at}

-- the bytes b at the places from n on, as far as the run reaches, and how many they are
pub record Put (b : List ℕ) (n : ℕ) (out out' : List ℕ) (r : ℕ) : Type 0 where
  pub size : r ≡ length b
  pub list : out' ≡ put_at n b out

-- the same with the place behind all of them
pub record Laid (b : List ℕ) (n : ℕ) (out out' : List ℕ) (r : ℕ) : Type 0 where
  pub next : r ≡ n + length b
  pub list : out' ≡ put_at n b out

-- the same of at most so many bytes
pub record LaidWithin (most : ℕ) (b : List ℕ) (n : ℕ) (out out' : List ℕ) (r : ℕ) : Type 0 where
  pub laid : Laid b n out out' r
  pub short : r ≤ n + most
