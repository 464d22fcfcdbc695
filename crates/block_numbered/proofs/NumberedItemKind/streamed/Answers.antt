-- `streamed` meets its contract. Assumes nothing.
use Rattle.block_numbered.specs.DigitLaws.{few-within}
use Rattle.block_numbered.specs.NumberedLaws.{stream_rules}
use Rattle.common.specs.LaterLaws.{led_rules}
use Rattle.block_numbered.proofs.NumberedItemKind.streamed.Goals as goal
use Rattle.block_numbered.proofs.NumberedItemKind.streamed.Goals.{else-leads_later-via-then-leads_later+else-blank_at, else-leads_later-via-else-leads_later}

pub returns-then-p-len : goal.returns-then-p-len
returns-then-p-len c = λ u. search (stream_rules, led_rules)

pub returns-then-n-eq0 : goal.returns-then-n-eq0
returns-then-n-eq0 c = λ u. search (stream_rules, led_rules)

pub overflow_sub-k : goal.overflow_sub-k
overflow_sub-k c = search few-within

pub returns-then-blank_at : goal.returns-then-blank_at
returns-then-blank_at c = λ u. record { turn = search (stream_rules, led_rules); left = search led_rules }

pub returns : goal.returns
returns c =
    λ u. elim c.else-leads_later.branch [
      | else-leads_later-via-then-leads_later+else-blank_at w ↦ search (stream_rules, led_rules)
      | else-leads_later-via-else-leads_later w ↦ search (stream_rules, led_rules)
    ]
