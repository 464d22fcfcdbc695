-- `next` meets its contract. Assumes nothing.
use Rattle.cont.specs.StepLaws.{served, next_long, next-misplaced, next-served}
use Rattle.cont.proofs.ContIter.next.Goals as goal

pub returns-then-src-gt-MAX_INPUT_LEN : goal.returns-then-src-gt-MAX_INPUT_LEN
returns-then-src-gt-MAX_INPUT_LEN c = search next_long

pub returns-then-is_misplaced : goal.returns-then-is_misplaced
returns-then-is_misplaced c = search next-misplaced

pub step-requires : goal.step-requires
step-requires c = search served

pub returns : goal.returns
returns c = search next-served
