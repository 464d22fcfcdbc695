-- `of_drawn` meets its contract: a loop that has asked of the first texts, and draws the next with what the last left. Assumes nothing.
use Rattle.std.proofs.Common.{◌≡◌}
use Rattle.replaying.specs.Replying.{posed, behind_in, seed_of, FirstDrawn}
use Rattle.replaying.proofs.question.of_drawn.Given as goal

abbrev pub invariant-loop : goal.invariant-loop
invariant-loop g l = (l.length ≡ behind_in (posed l.fn.asked) 0) × (l.draw ≡ seed_of (posed l.fn.asked) l.counter) × FirstDrawn g.S.Sections.says (posed l.fn.asked) l.counter l.sums
