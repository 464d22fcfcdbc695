-- `read_cont` meets its contract. Assumes nothing.
use Rattle.panel.specs.ContStateLaws.{cont_read}
use Rattle.panel.proofs.cont_state.read_cont.Goals as goal

pub returns : goal.returns
returns c = search cont_read
