-- `fence_opens` meets its contract. Assumes nothing.
use Rattle.std.proofs.Common.{◌∙◌}
use Rattle.lines.specs.FenceLaws.{opens_rule, opens_unruled}
use Rattle.lines.proofs.fence_tests.fence_opens.Goals as goal

pub returns-in_err-least : goal.returns-in_err-least
returns-in_err-least c = record { answer = c.from_residual.ensures ∙ opens_unruled _ _ _ _ _ _ c.byte_at-b.ensures c.fence_of.ensures c.in_err-least.ensures }

pub returns : goal.returns
returns c = let w = c.in_ok-least.ensures in search opens_rule
