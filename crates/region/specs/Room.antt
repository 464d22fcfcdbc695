-- Room for regions in a list. Assumes nothing.
-- The page: "region k has its start at 2k and its exclusive end at 2k+1."
use Rattle.std.specs.Prelude.{List, ℕ, ◌+◌, ◌*◌, ◌≤◌, length}
use Rattle.common.specs.Entry.{wide}

-- a run with room for region n, whose two places fit 32 bits
pub record RowFits (n start end : ℕ) (out : List ℕ) : Type 0 where
  pub room : n * wide + wide ≤ length out
  pub low : start ≤ 4294967295
  pub high : end ≤ 4294967295
