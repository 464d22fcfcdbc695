-- `write` meets its contract. Assumes nothing.
use Rattle.json_file.specs.WroteLaws.{wrote_shaped, wrote_misshapen, wrote_full, wrote_all}
use Rattle.json_file.proofs.write.Goals as goal

pub returns-then-is_misshapen : goal.returns-then-is_misshapen
returns-then-is_misshapen c = search wrote_misshapen

pub layout_fits-requires : goal.layout_fits-requires
layout_fits-requires c = search wrote_shaped

pub put_list-requires : goal.put_list-requires
put_list-requires c = search wrote_shaped

pub returns-then-layout_fits : goal.returns-then-layout_fits
returns-then-layout_fits c = search wrote_all

pub returns : goal.returns
returns c = search wrote_full
