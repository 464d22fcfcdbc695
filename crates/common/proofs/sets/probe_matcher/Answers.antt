-- `probe_matcher` meets its contract. Assumes nothing.
use Rattle.common.specs.TableLaws.{probing_first, probing_no, probing_yes, probing_many, probing_all}
use Rattle.common.proofs.sets.probe_matcher.Goals as goal

pub loop-b-init : goal.loop-b-init
loop-b-init c = search probing_first

pub loop-b-preserved-then-not-accepted : goal.loop-b-preserved-then-not-accepted
loop-b-preserved-then-not-accepted c = search probing_no

pub returns-then-n-eq3 : goal.returns-then-n-eq3
returns-then-n-eq3 c = search probing_many

pub loop-b-preserved : goal.loop-b-preserved
loop-b-preserved c = search probing_yes

pub returns : goal.returns
returns c = search probing_all
