-- `rack_cont_new` meets its contract. Assumes nothing.
use Rattle.panel.specs.ContState.{cont_cells}
use Rattle.panel.specs.StateLaws.{made_as}
use Rattle.panel.proofs.scanners.rack_cont_new.Goals as goal

pub returns : goal.returns
returns c = search (made_as cont_cells)
