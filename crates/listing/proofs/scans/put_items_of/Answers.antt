-- `put_items_of` meets its contract. Assumes nothing.
use Rattle.std.specs.Prelude.{refl}
use Rattle.common.specs.Kinds.{told_by}
use Rattle.common.specs.declared.scan.ItemIter.{ItemIter}
use Rattle.listing.specs.ScannerLines.{items-first, item_reads}
use Rattle.listing.specs.GoingLaws.{going_here, unwrapped_less, unwrapped_again, unwrapped_end}
use borrow.Author.Rules.{rules}
use Rattle.listing.proofs.scans.put_items_of.Goals as goal

pub loop-i-init : goal.loop-i-init
loop-i-init g c = search (items-first g.met.K.ItemKind.lawful g.K.ListingKind.letter c.args.set.now, rules)

pub put-k-requires : goal.put-k-requires
put-k-requires g c = search going_here

pub loop-i-smaller : goal.loop-i-smaller
loop-i-smaller g c = search (unwrapped_less (ItemIter g.row.K.Denot) (told_by g.K.ItemKind.reading.values) (λ r. refl), item_reads g.met.K.ItemKind.lawful)

pub loop-i-preserved : goal.loop-i-preserved
loop-i-preserved g c = search (unwrapped_again (ItemIter g.row.K.Denot) (told_by g.K.ItemKind.reading.values) (λ r. refl), item_reads g.met.K.ItemKind.lawful)

pub returns-in_default : goal.returns-in_default
returns-in_default g c = search (unwrapped_end (ItemIter g.row.K.Denot) (told_by g.K.ItemKind.reading.values) (λ r. refl))
