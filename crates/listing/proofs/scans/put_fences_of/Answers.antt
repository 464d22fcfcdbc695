-- `put_fences_of` meets its contract. Assumes nothing.
use Rattle.std.specs.Prelude.{refl}
use Rattle.common.specs.Refusals.{told_span}
use Rattle.fence.specs.declared.FenceIter.{FenceIter}
use Rattle.listing.specs.ScannerLines.{fences-first}
use Rattle.listing.specs.GoingLaws.{going_here, unwrapped_less, unwrapped_again, unwrapped_end}
use borrow.Author.Rules.{rules}
use Rattle.listing.proofs.scans.put_fences_of.Goals as goal

pub loop-s-init : goal.loop-s-init
loop-s-init c = search (fences-first, rules)

pub put_three-k-requires : goal.put_three-k-requires
put_three-k-requires c = search going_here

pub loop-s-smaller : goal.loop-s-smaller
loop-s-smaller c = search (unwrapped_less FenceIter told_span (λ r. refl))

pub loop-s-preserved : goal.loop-s-preserved
loop-s-preserved c = search (unwrapped_again FenceIter told_span (λ r. refl))

pub returns-in_default : goal.returns-in_default
returns-in_default c = search (unwrapped_end FenceIter told_span (λ r. refl))
