-- `consume_marker` meets its contract. Assumes nothing.
use Rattle.cont.specs.MarkLaws.{after_blank, after_other, after_last}
use Rattle.cont.proofs.consume_marker.Goals as goal
use Rattle.cont.proofs.consume_marker.Goals.{else-p-le-via-then-p-le+else-is_blank, else-p-le-via-else-p-le}

pub returns-then-is_blank : goal.returns-then-is_blank
returns-then-is_blank c = search after_blank

pub returns-else-p-le : goal.returns-else-p-le
returns-else-p-le c = elim c.else-p-le.branch [
  | else-p-le-via-then-p-le+else-is_blank w ↦ search after_other
  | else-p-le-via-else-p-le w ↦ search after_last
]
