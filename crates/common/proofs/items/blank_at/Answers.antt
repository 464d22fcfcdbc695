-- `blank_at` meets its contract. Assumes nothing.
use Rattle.common.specs.ItemLaws.{holds-told, holds_out}
use Rattle.common.proofs.items.blank_at.Goals as goal

pub returns-then-k-src : goal.returns-then-k-src
returns-then-k-src c = search holds-told

pub returns-else-k-src : goal.returns-else-k-src
returns-else-k-src c = search holds_out
