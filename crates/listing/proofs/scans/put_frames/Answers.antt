-- `put_frames` meets its contract. Assumes nothing.
use Rattle.std.specs.Prelude.{refl}
use Rattle.common.specs.Refusals.{told_span}
use Rattle.cont.specs.declared.ContIter.{ContIter}
use Rattle.listing.specs.ScannerLines.{frames-first}
use Rattle.listing.specs.GoingLaws.{going_here, unwrapped_less, unwrapped_again, unwrapped_end}
use borrow.Author.Rules.{rules}
use Rattle.listing.proofs.scans.put_frames.Goals as goal

pub loop-s-init : goal.loop-s-init
loop-s-init c = search (frames-first, rules)

pub put_two-k-requires : goal.put_two-k-requires
put_two-k-requires c = search going_here

pub loop-s-smaller : goal.loop-s-smaller
loop-s-smaller c = search (unwrapped_less ContIter told_span (λ r. refl))

pub loop-s-preserved : goal.loop-s-preserved
loop-s-preserved c = search (unwrapped_again ContIter told_span (λ r. refl))

pub returns-in_default : goal.returns-in_default
returns-in_default c = search (unwrapped_end ContIter told_span (λ r. refl))
