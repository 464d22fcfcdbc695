-- `fill` meets its contract. Assumes nothing.
use Rattle.common.specs.ListLaws.{fill_full, fill_counted, room-counted}
use Rattle.context.specs.BuildLaws.{fill_roomy, room_roomy}
use borrow.Author.Rules.{rules}
use Rattle.context.proofs.fill.Goals as goal

pub write_regions-requires : goal.write_regions-requires
write_regions-requires c = search (room_roomy, rules)

pub returns-then-src-most : goal.returns-then-src-most
returns-then-src-most c = search fill_roomy

pub returns-then-most-found : goal.returns-then-most-found
returns-then-most-found c = search fill_full

pub write_regions-requires-2 : goal.write_regions-requires-2
write_regions-requires-2 c = search (room-counted, rules)

pub returns : goal.returns
returns c = search fill_counted
