-- `region_at` meets its contract. Assumes nothing.
use Rattle.cover.specs.ShapeLaws.{region_read, region_lacks}
use Rattle.cover.proofs.shape.region_at.Goals as goal

pub returns-then-k-count : goal.returns-then-k-count
returns-then-k-count g c = search region_read

pub returns-else-k-count : goal.returns-else-k-count
returns-else-k-count g c = search region_lacks
