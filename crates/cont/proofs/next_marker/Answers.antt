-- `next_marker` meets its contract. Assumes nothing.
use Rattle.cont.specs.TurnLaws.{sought_here}
use Rattle.cont.proofs.next_marker.Goals as goal

pub returns-then-is_at : goal.returns-then-is_at
returns-then-is_at c = search sought_here
