-- `of_all` meets its contract. Assumes nothing.
use Rattle.replaying.specs.Replying.{posed}
use Rattle.replaying.specs.ReplyingLaws.{posed_as, asked_none, asked_again}
use Rattle.replaying.proofs.question.of_all.Goals as goal

pub loop-turn-init : goal.loop-turn-init
loop-turn-init g c = (c.behind-length.ensures.answer, asked_none g.S.Sections.says (posed c.args.asked) c.new-sums.ensures)

pub loop-turn-preserved : goal.loop-turn-preserved
loop-turn-preserved g c =
    let v = c.loop-turn.invariant in
    let q = posed_as (posed c.args.asked) _ _ c.of.result c.of.ensures.question c.of.ensures.numbers c.of.ensures.cells c.of.ensures.text c.of.ensures.place in
    (v.0, asked_again g.S.Sections.says (posed c.args.asked) _ _ v.0 _ c.spot_of-spot.ensures _ c.nth.ensures _ v.1 _ _ _ _ c.in-Ok.is c.part.ensures q c.of_text-sums.ensures)
