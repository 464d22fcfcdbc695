-- `open_from` meets its contract: the markers behind the open frames are stored. Assumes nothing.
use Rattle.cont.specs.MarkLaws.{mark-told, mark_fits, opening-first, opening_again, opening_last, opening_full}
use Rattle.cont.proofs.open_from.Goals as goal

pub loop-n-init : goal.loop-n-init
loop-n-init c = search opening-first

pub consume_marker-cur-requires-clause-p_lt_le : goal.consume_marker-cur-requires-clause-p_lt_le
consume_marker-cur-requires-clause-p_lt_le c = search mark-told

pub overflow_cast-open : goal.overflow_cast-open
overflow_cast-open c = search mark_fits

pub loop-n-preserved : goal.loop-n-preserved
loop-n-preserved c = search opening_again

pub returns-else-marker_at : goal.returns-else-marker_at
returns-else-marker_at c = search opening_last

pub returns-after-loop-n : goal.returns-after-loop-n
returns-after-loop-n c = search opening_full
