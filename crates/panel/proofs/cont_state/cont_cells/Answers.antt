-- `cont_cells` meets its contract. Assumes nothing.
use Rattle.panel.specs.ContStateLaws.{cells_laid}
use Rattle.panel.proofs.cont_state.cont_cells.Goals as goal

pub returns : goal.returns
returns c = search cells_laid
