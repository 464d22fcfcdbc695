-- `covering_end` meets its contract: its four ways out. Assumes nothing.
use Rattle.cover.proofs.CursorLaws.{cover_refused, cover_past, cover_before, cover_found}
use Rattle.cover.proofs.cursor.covering_end.Goals.{then-count-index-via-then-count-index, then-count-index-via-else-count-index+then-place-number}
use Rattle.cover.proofs.cursor.covering_end.Goals as goal

pub returns-then-count : goal.returns-then-count
returns-then-count g c = search cover_refused

pub returns-then-count-index : goal.returns-then-count-index
returns-then-count-index g c = elim c.then-count-index.branch [ then-count-index-via-then-count-index w ↦ search cover_past | then-count-index-via-else-count-index+then-place-number w ↦ search cover_before ]

pub returns : goal.returns
returns g c = search cover_found
