-- `pass` meets its contract: a loop that skips regions. Assumes nothing.
use Rattle.cover.proofs.CursorLaws.{pass_rules}
use Rattle.cover.proofs.cursor.pass.Goals as goal

pub returns-then-place-number : goal.returns-then-place-number
returns-then-place-number g c = search pass_rules

pub loop-i-preserved : goal.loop-i-preserved
loop-i-preserved g c = search pass_rules

pub returns : goal.returns
returns g c = let f = c.loop-i.auto.i-end in search pass_rules
