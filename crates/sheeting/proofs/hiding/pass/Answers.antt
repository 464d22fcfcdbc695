-- `pass` meets its contract: a loop of steps. Assumes nothing.
use Rattle.sheeting.specs.HidingLaws.{passing_first, pass_found, pass_next, pass_less, pass_none}
use Rattle.sheeting.proofs.hiding.pass.Goals as goal

pub loop-h-init : goal.loop-h-init
loop-h-init c = search passing_first

pub returns-then-place-h : goal.returns-then-place-h
returns-then-place-h c = search pass_found

pub loop-h-smaller : goal.loop-h-smaller
loop-h-smaller c = search pass_less

pub loop-h-preserved : goal.loop-h-preserved
loop-h-preserved c = search pass_next

pub returns-in-None : goal.returns-in-None
returns-in-None c = search pass_none
