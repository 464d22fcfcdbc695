-- `lined` meets its contract. Assumes nothing.
use Rattle.common.specs.ItemLaws.{line_size}
use Rattle.block_numbered.specs.NumberedLaws.{line_rules}
use Rattle.block_numbered.proofs.NumberedItemKind.lined.Goals as goal
use Rattle.block_numbered.proofs.NumberedItemKind.lined.Goals.{else-accepts-via-then-accepts+else-blank_at, else-accepts-via-else-accepts}

pub returns-then-q-src : goal.returns-then-q-src
returns-then-q-src c = search line_rules

pub slice_bounds-line-end : goal.slice_bounds-line-end
slice_bounds-line-end c = search line_size

pub returns-then-j-p : goal.returns-then-j-p
returns-then-j-p c = search line_rules

pub returns-then-j-end : goal.returns-then-j-end
returns-then-j-end c = search line_rules

pub returns-then-blank_at : goal.returns-then-blank_at
returns-then-blank_at c = search line_rules

pub returns : goal.returns
returns c = elim c.else-accepts.branch [ else-accepts-via-then-accepts+else-blank_at w ↦ search line_rules | else-accepts-via-else-accepts w ↦ search line_rules ]
