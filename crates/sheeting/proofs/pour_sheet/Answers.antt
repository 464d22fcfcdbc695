-- `pour_sheet` meets its contract. Assumes nothing.
use Rattle.cells.specs.PouredLaws.{pour_room, pour_short}
use Rattle.sheeting.specs.SheetingLaws.{sheet_ready, sheet_done, sheet_full}
use Rattle.sheeting.proofs.pour_sheet.Goals as goal

pub fits-requires : goal.fits-requires
fits-requires c = search sheet_ready

pub write_items-found-requires-clause-sieve_ready : goal.write_items-found-requires-clause-sieve_ready
write_items-found-requires-clause-sieve_ready c = search sheet_ready

pub write_items-found-requires-clause-walk_in_bounds : goal.write_items-found-requires-clause-walk_in_bounds
write_items-found-requires-clause-walk_in_bounds c = search pour_room

pub returns-then-fits : goal.returns-then-fits
returns-then-fits c = search sheet_done

pub returns-then-room_of-gt1 : goal.returns-then-room_of-gt1
returns-then-room_of-gt1 c = search sheet_full

pub returns : goal.returns
returns c = search pour_short
