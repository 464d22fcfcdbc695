-- `put_digits` meets its contract. Assumes nothing.
use Rattle.put.specs.PutLaws.{digits_fit, digits_laid}
use Rattle.listing.proofs.put_line.put_digits.Goals as goal

pub overflow_add-result : goal.overflow_add-result
overflow_add-result c = search digits_fit

pub returns : goal.returns
returns c = search digits_laid
