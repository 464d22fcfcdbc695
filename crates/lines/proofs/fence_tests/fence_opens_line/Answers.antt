-- `fence_opens_line` meets its contract. Assumes nothing.
use Rattle.std.proofs.Common.{◌∙◌}
use Rattle.lines.specs.FenceLaws.{enters_told}
use Rattle.lines.proofs.fence_tests.fence_opens_line.Goals as goal

pub returns : goal.returns
returns c = record { answer = c.is_some.ensures ∙ enters_told _ _ _ _ _ c.fence_opens.ensures }
