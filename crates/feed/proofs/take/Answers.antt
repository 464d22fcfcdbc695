-- `take` meets its contract: its three ways out. Assumes nothing.
use Rattle.std.specs.Prelude.{Some}
use Rattle.std.proofs.Common.{ap, ◌∙◌}
use Rattle.feed.specs.FeedLaws.{take-mark, take_number, take_none}
use Rattle.feed.proofs.take.Goals as goal

pub returns-in-Mark : goal.returns-in-Mark
returns-in-Mark c = let m = c.in-Some.is ∙ ap Some c.in-Mark.is in search take-mark

pub returns-in-Number : goal.returns-in-Number
returns-in-Number c = let m = c.in-Some.is ∙ ap Some c.in-Number.is in search take_number

pub returns-in_default : goal.returns-in_default
returns-in_default c = search take_none
