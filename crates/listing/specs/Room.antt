-- Where a listing's bytes have room. Assumes nothing.
use Rattle.std.specs.Prelude.{List, ℕ, ◌+◌, ◌≤◌, length}

-- a place from which on the bytes b end at or before 1,000,000
pub record Room (n : ℕ) (b : List ℕ) : Type 0 where
  pub fits : n + length b ≤ 1000000
