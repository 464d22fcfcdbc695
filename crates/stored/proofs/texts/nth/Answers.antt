-- `nth` meets its contract: a loop that writes the bytes. Assumes nothing.
use Rattle.stored.specs.TextLaws.{spells_first, spells_again, text_none, text_some}
use Rattle.stored.proofs.texts.nth.Goals as goal

pub loop-i-init : goal.loop-i-init
loop-i-init c = search spells_first

pub loop-i-preserved : goal.loop-i-preserved
loop-i-preserved c = search spells_again

pub returns-then-is_over : goal.returns-then-is_over
returns-then-is_over c = search text_none

pub returns-else-is_over : goal.returns-else-is_over
returns-else-is_over c = search text_some
