-- `count_shown` meets its contract. Assumes nothing.
use Rattle.sheeting.specs.SheetingLaws.{sheet_ready, shown-counted}
use Rattle.sheeting.proofs.counting.count_shown.Goals as goal

pub count_items-requires : goal.count_items-requires
count_items-requires c = search sheet_ready

pub returns : goal.returns
returns c = search shown-counted
