-- `cont_fits` meets its contract. Assumes nothing.
use Rattle.panel.specs.ContState.{cont_limits}
use borrow.Author.Rules.{rules}
use Rattle.panel.proofs.cont_state.cont_fits.Goals as goal

pub returns : goal.returns
unfolding cont_limits
returns c = search rules
