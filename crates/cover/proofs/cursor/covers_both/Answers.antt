-- `covers_both` meets its contract: the second call has the cursor at the index where the first left it. Assumes nothing.
use Rattle.cover.proofs.CursorLaws.{cover_twice}
use Rattle.cover.proofs.cursor.covers_both.Goals as goal

pub returns : goal.returns
returns g c = search cover_twice
