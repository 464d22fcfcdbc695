-- `pour` meets its contract. Assumes nothing.
use Rattle.cells.specs.PouredLaws.{pour_short}
use Rattle.amending.specs.AmendingLaws.{parts_roomy, parts_full, parts_done}
use Rattle.amending.proofs.pour.Goals as goal

pub write-requires : goal.write-requires
write-requires c = search parts_roomy

pub returns-then-total-out : goal.returns-then-total-out
returns-then-total-out c = search parts_done

pub returns-then-room_of-gt1 : goal.returns-then-room_of-gt1
returns-then-room_of-gt1 c = search parts_full

pub returns : goal.returns
returns c = search pour_short
