-- `inline_at` meets its contract. Assumes nothing.
use Rattle.region.specs.StepLaws.{inline_none, inline-passed, inline_sym, inline_asym}
use Rattle.region.proofs.inline_at.Goals as goal

pub returns-then-k-eq0 : goal.returns-then-k-eq0
returns-then-k-eq0 c = search inline_none

pub returns-then-is_escaped : goal.returns-then-is_escaped
returns-then-is_escaped c = search inline-passed

pub returns-then-k-eq1 : goal.returns-then-k-eq1
returns-then-k-eq1 c = search inline_sym

pub returns : goal.returns
returns c = search inline_asym
