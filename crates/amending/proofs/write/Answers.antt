-- `write` meets its contract. Assumes nothing.
use Rattle.amend.specs.SettleLaws.{own_asks, moved_asks, all-written}
use Rattle.amending.specs.WriteLaws.{listed_long}
use Rattle.amending.proofs.write.Goals as goal

pub write_own-own-requires : goal.write_own-own-requires
write_own-own-requires c = search own_asks

pub copy_rows-requires : goal.copy_rows-requires
copy_rows-requires c = search moved_asks

pub returns : goal.returns
returns c = search (all-written, listed_long)
