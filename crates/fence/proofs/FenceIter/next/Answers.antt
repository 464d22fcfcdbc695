-- `next` meets its contract. Assumes nothing.
use Rattle.fence.specs.Laws.{next_long, next-outside, next-told}
use Rattle.fence.proofs.FenceIter.next.Goals as goal

pub returns-then-src-gt-MAX_INPUT_LEN : goal.returns-then-src-gt-MAX_INPUT_LEN
returns-then-src-gt-MAX_INPUT_LEN c = search next_long

pub returns-then-self-src : goal.returns-then-self-src
returns-then-self-src c = search next-outside

pub returns : goal.returns
returns c = search next-told
