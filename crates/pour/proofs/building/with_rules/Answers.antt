-- `with_rules` meets its contract. Assumes nothing.
use Rattle.pour.specs.PourLaws.{poured_lent}
use Rattle.pour.proofs.building.with_rules.Goals as goal

pub returns : goal.returns
returns c = search poured_lent
