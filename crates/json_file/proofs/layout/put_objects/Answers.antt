-- `put_objects` meets its contract. Assumes nothing.
use borrow.Author.Rules.{rules}
use Rattle.json_file.specs.WriteLaws.{objects_first, objects_again, objects_same, objects_end}
use Rattle.json_file.proofs.layout.put_objects.Goals as goal

pub loop-k-init : goal.loop-k-init
loop-k-init g c = search objects_first

pub loop-k-preserved : goal.loop-k-preserved
loop-k-preserved g c = search objects_again

pub shape_of-out : goal.shape_of-out
shape_of-out g c = search (rules, objects_same)

pub returns : goal.returns
returns g c = search objects_end
