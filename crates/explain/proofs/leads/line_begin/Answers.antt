-- `line_begin` meets its contract. Assumes nothing.
use Rattle.explain.proofs.WayLaws.{seeking_rules}
use Rattle.explain.proofs.leads.line_begin.Goals as goal

pub returns-then-line-eq0 : goal.returns-then-line-eq0
returns-then-line-eq0 c = search seeking_rules

pub loop-init : goal.loop-init
loop-init c = search seeking_rules

pub returns-then-text-a : goal.returns-then-text-a
returns-then-text-a c = search seeking_rules

pub loop-preserved : goal.loop-preserved
loop-preserved c = search seeking_rules

pub returns : goal.returns
returns c = search seeking_rules
