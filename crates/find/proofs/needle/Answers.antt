-- `needle` meets its contract. Assumes nothing.
use Rattle.std.proofs.Common.{rules}
use Rattle.find.specs.NeedleLaws.{needle_there, needle_else}
use Rattle.find.proofs.needle.Goals as goal

pub returns-then-j-min : goal.returns-then-j-min
returns-then-j-min c = search (rules, needle_there)

pub returns-else-j-min : goal.returns-else-j-min
returns-else-j-min c = search (rules, needle_else)
