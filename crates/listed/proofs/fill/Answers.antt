-- `fill` meets its contract. Assumes nothing.
use Rattle.sheet.specs.BeginLaws.{within_ready, within_fits}
use Rattle.cells.specs.PouredLaws.{pour_short}
use Rattle.listed.specs.ListedLaws.{fill_off, fill_on}
use Rattle.listed.proofs.fill.Goals as goal

pub returns-in-Err : goal.returns-in-Err
returns-in-Err c = search fill_off

pub write_items-requires-clause-ready : goal.write_items-requires-clause-ready
write_items-requires-clause-ready c = search within_ready

pub write_items-requires-clause-feed_len_bound : goal.write_items-requires-clause-feed_len_bound
write_items-requires-clause-feed_len_bound c = search within_fits

pub returns-in-Ok : goal.returns-in-Ok
returns-in-Ok c = search fill_on

pub returns : goal.returns
returns c = search pour_short
