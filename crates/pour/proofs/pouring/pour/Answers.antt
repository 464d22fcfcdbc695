-- `pour` meets its contract. Assumes nothing.
use Rattle.cells.specs.PouredLaws.{pour_room, pour_done, pour_full, pour_short}
use Rattle.pour.proofs.pouring.pour.Goals as goal

pub write_regions-found-requires : goal.write_regions-found-requires
write_regions-found-requires c = search pour_room

pub returns-then-fits : goal.returns-then-fits
returns-then-fits c = search pour_done

pub returns-then-room_of-gt1 : goal.returns-then-room_of-gt1
returns-then-room_of-gt1 c = search pour_full

pub returns : goal.returns
returns c = search pour_short
