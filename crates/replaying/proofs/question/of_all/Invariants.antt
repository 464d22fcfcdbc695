-- `of_all` meets its contract: a loop that has asked the first questions. Assumes nothing.
use Rattle.std.proofs.Common.{◌≡◌}
use Rattle.replaying.specs.Replying.{posed, behind_in, FirstAsked}
use Rattle.replaying.proofs.question.of_all.Given as goal

abbrev pub invariant-loop-turn : goal.invariant-loop-turn
invariant-loop-turn g l = (l.length ≡ behind_in (posed l.fn.asked) 0) × FirstAsked g.S.Sections.says (posed l.fn.asked) l.turn l.sums
