-- `leads_line` meets its contract. Assumes nothing.
use Rattle.common.specs.LaterLaws.{line-told}
use Rattle.common.proofs.items.leads_line.Goals as goal

pub returns : goal.returns
returns c = search line-told
