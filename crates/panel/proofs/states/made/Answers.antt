-- `made` meets its contract. Assumes nothing.
use Rattle.panel.specs.StateLaws.{made_not, made_whole}
use Rattle.panel.proofs.states.made.Goals as goal

pub returns-then-state-all : goal.returns-then-state-all
returns-then-state-all c = search made_not

pub returns : goal.returns
returns c = search made_whole
