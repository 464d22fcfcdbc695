-- `starts_before` meets its contract: a loop that halves. Assumes nothing.
use Rattle.amend.specs.RowLaws.{halving_first, halving_low, halving_high, halving_end}
use Rattle.amend.proofs.rows.starts_before.Goals as goal

pub loop-low-init : goal.loop-low-init
loop-low-init c = search halving_first

pub loop-low-preserved-then-number-k : goal.loop-low-preserved-then-number-k
loop-low-preserved-then-number-k c = search halving_low

pub loop-low-preserved : goal.loop-low-preserved
loop-low-preserved c = search halving_high

pub returns : goal.returns
returns c = search halving_end
