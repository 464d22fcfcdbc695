-- `count_items` of what was judged meets its contract. Assumes nothing.
use Rattle.sheet.specs.BeginLaws.{begun_ready, all_counted}
use Rattle.sheet.proofs.SheetInput.count_items.Goals as goal

pub count_items-requires : goal.count_items-requires
count_items-requires g c = search begun_ready

pub returns : goal.returns
returns g c = search all_counted
