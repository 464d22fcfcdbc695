-- `hides` meets its contract. Assumes nothing.
use Rattle.sheet.specs.ShowLaws.{query_asked}
use Rattle.sheet.proofs.hides.Goals as goal

pub returns : goal.returns
returns g c = search query_asked
