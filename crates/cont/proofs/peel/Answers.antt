-- `peel` meets its contract: the markers are followed as far as they go. Assumes nothing.
use Rattle.cont.specs.MarkLaws.{mark-told, peeling_again, peeling_lacks, peeling_all}
use Rattle.cont.proofs.peel.Goals as goal

pub consume_marker-cur-requires : goal.consume_marker-cur-requires
consume_marker-cur-requires c = search mark-told

pub loop-count-preserved : goal.loop-count-preserved
loop-count-preserved c = search peeling_again

pub returns-else-marker_at : goal.returns-else-marker_at
returns-else-marker_at c = search peeling_lacks

pub returns-after-loop-count : goal.returns-after-loop-count
returns-after-loop-count c = search peeling_all
