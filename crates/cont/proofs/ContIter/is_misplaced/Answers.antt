-- `is_misplaced` meets its contract. Assumes nothing.
use Rattle.std.proofs.Common.{lt-ltb, le-ltb}
use Rattle.cont.specs.StepLaws.{or_holds, or_next, misplaced_before, misplaced_last}
use Rattle.cont.proofs.ContIter.is_misplaced.Goals as goal
use Rattle.cont.proofs.ContIter.is_misplaced.Goals.{then-src-self, else-src-self, then-self-gt-MAX_DEPTH, else-self-gt-MAX_DEPTH, then-self-gt-MAX_DEPTH-2, else-self-gt-MAX_DEPTH-2}

pub returns-then-self-gt-MAX_DEPTH-3 : goal.returns-then-self-gt-MAX_DEPTH-3
returns-then-self-gt-MAX_DEPTH-3 c = record {
  answer =
      misplaced_before c.args.self c.args.src.now _ _ _
      (elim c.if-src-self.branch [ then-src-self w ↦ or_holds _ (search lt-ltb) w.t-6-is | else-src-self w ↦ or_next (search le-ltb) w.t-6-is ])
      (elim c.if-self-gt-MAX_DEPTH.branch [ then-self-gt-MAX_DEPTH w ↦ or_holds _ (search) w.t-5-is | else-self-gt-MAX_DEPTH w ↦ or_next (search) w.t-5-is ])
      (elim c.if-self-gt-MAX_DEPTH-2.branch [ then-self-gt-MAX_DEPTH-2 w ↦ or_holds _ (search) w.t-4-is | else-self-gt-MAX_DEPTH-2 w ↦ or_next (search) w.t-4-is ])
      (search);
}

pub returns-else-self-gt-MAX_DEPTH-3 : goal.returns-else-self-gt-MAX_DEPTH-3
returns-else-self-gt-MAX_DEPTH-3 c = search misplaced_last
