-- `begin_within` of what was judged meets its contract. Assumes nothing.
use Rattle.sheet.specs.BeginLaws.{begun_ready, within_roomy, within_full, within_counted}
use Rattle.sheet.proofs.SheetInput.begin_within.Goals as goal

pub returns-then-self-most : goal.returns-then-self-most
returns-then-self-most g c = search within_roomy

pub count_items-requires : goal.count_items-requires
count_items-requires g c = search begun_ready

pub returns-then-most-count_items : goal.returns-then-most-count_items
returns-then-most-count_items g c = search within_full

pub returns : goal.returns
returns g c = search within_counted
