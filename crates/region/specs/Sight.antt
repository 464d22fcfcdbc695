-- What a turn tells a scan that remembers. Assumes nothing.
use Rattle.std.specs.Prelude.{ℕ}
use Rattle.common.specs.Turn.{Turn}
use Rattle.region.specs.Region.{Caused}

-- a turn; or that the close of an opener b was sought in vain up to u, and that the scan goes on from r
pub data Sight : Type 0 where
  turned : Turn Caused → Sight
  lost : ℕ → ℕ → ℕ → Sight
