-- `is_misshapen` meets its contract. Assumes nothing.
use Rattle.cover.specs.ShapeLaws.{misshapen-full, misshapen-order}
use Rattle.cover.proofs.shape.is_misshapen.Goals as goal

pub returns-then-count : goal.returns-then-count
returns-then-count g c = search misshapen-full

pub returns-else-count : goal.returns-else-count
returns-else-count g c = search misshapen-order
