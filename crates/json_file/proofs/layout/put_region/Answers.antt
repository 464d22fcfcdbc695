-- `put_region` meets its contract. Assumes nothing.
use Rattle.json_file.specs.WriteLaws.{region_first, region_later}
use Rattle.json_file.proofs.layout.put_region.Goals as goal

pub returns-then-k-eq0 : goal.returns-then-k-eq0
returns-then-k-eq0 c = search region_first

pub returns : goal.returns
returns c = search region_later
