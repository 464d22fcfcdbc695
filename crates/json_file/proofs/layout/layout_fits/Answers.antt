-- `layout_fits` meets its contract. Assumes nothing.
use Rattle.json_file.specs.WriteLaws.{longest_fits, most_fits, layout_roomy, layout-counted}
use Rattle.json_file.proofs.layout.layout_fits.Goals as goal

pub overflow_mul-count : goal.overflow_mul-count
overflow_mul-count g c = search longest_fits

pub overflow_add-count : goal.overflow_add-count
overflow_add-count g c = search most_fits

pub returns-then-count-len : goal.returns-then-count-len
returns-then-count-len g c = search layout_roomy

pub returns : goal.returns
returns g c = search layout-counted
