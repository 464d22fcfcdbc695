-- `Form::ends` meets its contract: a loop that finds one end after the other. Assumes nothing.
use Rattle.stored.specs.FormLaws.{parting_first, parting_again, parting_all}
use Rattle.stored.proofs.form.Form.ends.Goals as goal

pub loop-i-init : goal.loop-i-init
loop-i-init c = search parting_first

pub loop-i-preserved : goal.loop-i-preserved
loop-i-preserved c = search parting_again

pub returns : goal.returns
returns c = search parting_all
