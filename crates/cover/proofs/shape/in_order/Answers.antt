-- `in_order` meets its contract: a loop over rows that tests their places. Assumes nothing.
use Rattle.cover.specs.ShapeLaws.{tested_again, tested_bad}
use Rattle.cover.proofs.shape.in_order.Goals as goal

pub returns-then-start-low : goal.returns-then-start-low
returns-then-start-low g c = record {
  answer = tested_bad c.loop-k.invariant c.loop-k-test.true _ _ c.number-start.ensures c.number-end.ensures c.then-start-low.either;
}

pub loop-k-preserved : goal.loop-k-preserved
loop-k-preserved g c = search tested_again
