-- `number` meets its contract. Assumes nothing.
use Rattle.amending.specs.WriteLaws.{row_fits, number_fits}
use Rattle.amending.proofs.rows.number.Goals as goal

pub overflow_mul-i : goal.overflow_mul-i
overflow_mul-i c = search row_fits

pub overflow_add-i : goal.overflow_add-i
overflow_add-i c = search number_fits
