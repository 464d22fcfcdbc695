-- `read_bytes` meets its contract. Assumes nothing.
use Rattle.std.specs.Prelude.{Err}
use Rattle.std.proofs.Common.{ap, ◌∙◌}
use Rattle.json_file.specs.ReadLaws.{read_whole, read_count, placed_broken, placed_refused, placed_poured}
use Rattle.json_file.proofs.bytes.read_bytes.Goals as goal

pub pour_file-requires : goal.pour_file-requires
pour_file-requires c = search (read_whole, read_count)

pub returns-in-Err-Broken : goal.returns-in-Err-Broken
returns-in-Err-Broken c = let m = c.in-Err-Broken.is ∙ ap Err c.in-Err-Broken.field-0-is in search placed_broken

pub returns-in-Err-Refused : goal.returns-in-Err-Refused
returns-in-Err-Refused c = let m = c.in-Err-Refused.is ∙ ap Err c.in-Err-Refused.field-0-is in search placed_refused

pub returns-in-Ok : goal.returns-in-Ok
returns-in-Ok c = search placed_poured
