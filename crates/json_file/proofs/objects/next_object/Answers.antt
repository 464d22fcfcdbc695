-- `next_object` meets its contract: a loop that steps over bytes. Assumes nothing.
use Rattle.json_file.specs.WalkLaws.{walk_rules}
use Rattle.json_file.proofs.objects.next_object.Goals as goal

pub loop-i-init : goal.loop-i-init
loop-i-init c = search walk_rules

pub loop-i-preserved : goal.loop-i-preserved
loop-i-preserved c = search walk_rules

pub returns-in-Shut : goal.returns-in-Shut
returns-in-Shut c = search walk_rules

pub returns-in-Bad : goal.returns-in-Bad
returns-in-Bad c = search walk_rules

pub returns : goal.returns
returns c = search walk_rules
