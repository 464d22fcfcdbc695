-- `of_drawn` meets its contract. Assumes nothing.
use Rattle.replaying.specs.Replying.{posed}
use Rattle.replaying.specs.ReplyingLaws.{posed_as, drawn_none, drawn_again, seed_first, seed_again}
use Rattle.replaying.proofs.question.of_drawn.Goals as goal

pub loop-init : goal.loop-init
loop-init g c = (c.behind-length.ensures.answer, seed_first g.S.Sections.says (posed c.args.asked) c.behind-draw.ensures, drawn_none g.S.Sections.says (posed c.args.asked) c.new-sums.ensures)

pub loop-preserved : goal.loop-preserved
loop-preserved g c =
    let v = c.loop.invariant in
    let q = posed_as (posed c.args.asked) _ _ c.of.result c.of.ensures.question c.of.ensures.numbers c.of.ensures.cells c.of.ensures.text c.of.ensures.place in (
      v.0,
      seed_again g.S.Sections.says (posed c.args.asked) _ _ _ v.0 v.1 _ c.draw_text-text.ensures,
      drawn_again g.S.Sections.says (posed c.args.asked) _ _ _ v.0 v.1 _ c.draw_text-text.ensures _ _ _ _ v.2 c.part.ensures q c.of_text-sums.ensures,
    )
