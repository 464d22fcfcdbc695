-- `times` meets its contract: a product of two numbers of 32 bits has 64. Assumes nothing.
use Rattle.stored.specs.SumLaws.{product_fits}
use Rattle.stored.proofs.sums.times.Goals as goal

pub overflow_mul-result : goal.overflow_mul-result
overflow_mul-result c = search product_fits
