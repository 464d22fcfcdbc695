-- `is_of_three` meets its contract. Assumes nothing.
use Rattle.find.specs.Blocks.{of_three}
use mathlib.Core.Path.{refl}
use Rattle.find.proofs.blocks.is_of_three.Goals as goal

pub returns : goal.returns
unfolding of_three
returns c = record { answer = refl }
