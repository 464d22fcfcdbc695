-- `survey` meets its contract: a loop of steps that counts. Assumes nothing.
use Rattle.amend.specs.OwnLaws.{surveying_first, surveying_end, surveying_less, surveying_again}
use Rattle.amend.proofs.own.survey.Goals as goal

pub loop-r-init : goal.loop-r-init
loop-r-init c = search surveying_first

pub returns-in-None : goal.returns-in-None
returns-in-None c = search surveying_end

pub loop-r-smaller : goal.loop-r-smaller
loop-r-smaller c = search surveying_less

pub loop-r-preserved : goal.loop-r-preserved
loop-r-preserved c = search surveying_again
