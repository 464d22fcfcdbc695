-- Laws of rows in bytes: those that are read lie in the run, and those that are written have room. Assumes nothing.
use Rattle.std.specs.Prelude.{◌≡◌, refl, List, ℕ, ◌+◌, ◌*◌, ◌^◌, ◌<◌, length, Option, Some}
use Rattle.std.proofs.Common.{arith, Fits}
use Rattle.std.specs.Int.{w64}
use Rattle.common.specs.Entry.{wide}
use Rattle.region.specs.Region.{Listed}
use Rattle.region.specs.Memory.{KeptNext}
use Rattle.region.specs.declared.Region.{Region as Told}
use Rattle.rules.specs.Grammar.{Gram}
use Rattle.cells.specs.Bytes.{cells, row_bytes}
use Rattle.cells.specs.CellLaws.{length-cells}
use Rattle.amend.specs.OwnLaws.{Moving, moving_room, moving_fits}
use Rattle.amending.specs.Amending.{listed_bytes}
use Rattle.amending.specs.ByteParts.{RowBytesFit}
use Rattle.region.specs.declared.Region.{Region}

-- a region is `row_bytes` bytes of a list
pub listed_long : (r : Listed) → length (listed_bytes r) ≡ row_bytes
listed_long r = refl

-- the places of numbers that lie in a run
pub number_fits : (list : List ℕ) (i j : ℕ) → length list * 1 < 2 ^ 63 → i * wide + j < length (cells list) → Fits w64 (i * wide + j)
number_fits list i j held h = record { fits = omega (arith, length-cells list) }

pub row_fits : (list : List ℕ) (i j : ℕ) → length list * 1 < 2 ^ 63 → i * wide + j < length (cells list) → Fits w64 (i * wide)
row_fits list i j held h = record { fits = omega (arith, length-cells list) }

-- a row of the replacement's own
pub moving_puts_bytes : (flat : Listed → List ℕ) (g : Gram) (s dead : List ℕ) (by at : ℕ) (out₀ out : List ℕ) (m q : ℕ) (d : Option (Region × ℕ)) (dead' : List ℕ) → Moving flat row_bytes g s dead by at out₀ out m q → KeptNext g s dead q d dead'
    → (r : Told) (n : ℕ) → d ≡ Some (r, n) → RowBytesFit m (r.start + by) (r.end + by) out
moving_puts_bytes flat g s dead by at out₀ out m q d dead' i kept r n e =
    let fits = moving_fits flat row_bytes g s dead by at out₀ out m q d dead' i kept r n e in
    record { room = moving_room flat row_bytes g s dead by at out₀ out m q d dead' i kept r n e; low = fits.0; high = fits.1 }
