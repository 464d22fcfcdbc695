-- `in_runs` meets its contract. Assumes nothing.
use Rattle.std.proofs.Common.{◌∙◌, sym}
use Rattle.stored.specs.LongLaws.{pairs_again, pairs_over}
use Rattle.stored.proofs.long.in_runs.Goals as goal

pub loop-left-preserved : goal.loop-left-preserved
loop-left-preserved c = c.loop-left.invariant ∙ pairs_again _ _ _ c.in-len2-up.len_at_least c.with_run.ensures

pub returns : goal.returns
returns c = record { answer = pairs_over _ _ c.in_default.len_below ∙ sym c.loop-left.invariant }
