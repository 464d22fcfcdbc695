-- `write_bytes` meets its contract. Assumes nothing.
use Rattle.json_file.specs.WroteLaws.{wrote_shaped, bytes_wrong, bytes_short, bytes_crowded, bytes_written}
use Rattle.json_file.proofs.bytes.write_bytes.Goals as goal

pub returns-then-is_misshapen : goal.returns-then-is_misshapen
returns-then-is_misshapen c = search bytes_wrong

pub layout_fits-requires : goal.layout_fits-requires
layout_fits-requires c = search wrote_shaped

pub put_list-size-requires : goal.put_list-size-requires
put_list-size-requires c = search wrote_shaped

pub returns-then-layout_fits : goal.returns-then-layout_fits
returns-then-layout_fits c = search bytes_written

pub returns-then-room_of-gt2 : goal.returns-then-room_of-gt2
returns-then-room_of-gt2 c = search bytes_crowded

pub returns : goal.returns
returns c = search bytes_short
