-- `as_bytes` meets its contract: a loop that fills an array. Assumes nothing.
use Rattle.stored.specs.PartLaws.{fronts_first, fronts_again, fronts_all}
use Rattle.stored.proofs.parts.as_bytes.Goals as goal

pub loop-i-init : goal.loop-i-init
loop-i-init c = search fronts_first

pub loop-i-preserved : goal.loop-i-preserved
loop-i-preserved c = search fronts_again

pub returns : goal.returns
returns c = search fronts_all
