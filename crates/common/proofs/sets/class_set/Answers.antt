-- `class_set` meets its contract. Assumes nothing.
use Rattle.common.specs.TableLaws.{classed_first, classed_again, classed_all}
use Rattle.common.proofs.sets.class_set.Goals as goal

pub loop-b-init : goal.loop-b-init
loop-b-init c = search classed_first

pub loop-b-preserved : goal.loop-b-preserved
loop-b-preserved c = search classed_again

pub returns : goal.returns
returns c = search classed_all
