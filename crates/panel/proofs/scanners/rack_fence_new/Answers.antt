-- `rack_fence_new` meets its contract. Assumes nothing.
use Rattle.panel.specs.State.{fence_cells}
use Rattle.panel.specs.StateLaws.{made_as}
use Rattle.panel.proofs.scanners.rack_fence_new.Goals as goal

pub returns : goal.returns
returns c = search (made_as fence_cells)
