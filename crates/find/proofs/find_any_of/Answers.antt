-- `find_any_of` meets its contract. Assumes nothing.
use Rattle.std.proofs.Common.{rules}
use Rattle.find.specs.NeedleLaws.{sought_none}
use Rattle.find.proofs.find_any_of.Goals as goal

pub returns-in-0 : goal.returns-in-0
returns-in-0 g c = search (rules, sought_none)
