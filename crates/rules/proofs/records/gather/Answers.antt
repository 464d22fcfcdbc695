-- `gather` meets its contract: a loop over the run, rule by rule. Assumes nothing.
use Rattle.rules.specs.RecordLaws.{gather-first, gather_again, gather-all}
use Rattle.rules.proofs.records.gather.Goals as goal

pub loop-i-init : goal.loop-i-init
loop-i-init c = search gather-first

pub loop-i-preserved : goal.loop-i-preserved
loop-i-preserved c = search gather_again

pub returns : goal.returns
returns c = search gather-all
