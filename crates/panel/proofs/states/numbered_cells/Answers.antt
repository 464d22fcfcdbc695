-- `numbered_cells` meets its contract. Assumes nothing.
use Rattle.panel.specs.StateLaws.{item-cells}
use Rattle.panel.proofs.states.numbered_cells.Goals as goal

pub returns : goal.returns
returns c = search item-cells
