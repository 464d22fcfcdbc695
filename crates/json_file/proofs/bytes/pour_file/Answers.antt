-- `pour_file` meets its contract. Assumes nothing.
use Rattle.cells.specs.PouredLaws.{pour_short}
use Rattle.json_file.specs.ReadLaws.{file_full, file_poured}
use Rattle.json_file.proofs.bytes.pour_file.Goals as goal

pub returns-then-n-out : goal.returns-then-n-out
returns-then-n-out c = search file_poured

pub returns-then-room_of-gt1 : goal.returns-then-room_of-gt1
returns-then-room_of-gt1 c = search file_full

pub returns : goal.returns
returns c = search pour_short
