-- `pour_rows` meets its contract: a loop that writes. Assumes nothing.
use borrow.Author.Rules.{rules}
use Rattle.json_file.specs.WalkLaws.{walks_less}
use Rattle.json_file.specs.RowLaws.{span_bytes_lem, entered_first, entered_within, entered_room, entered_region, entered_bad, entered_over, entered_same}
use Rattle.json_file.proofs.rows.pour_rows.Goals as goal

pub loop-a-init : goal.loop-a-init
loop-a-init c = search (entered_first, span_bytes_lem)

pub next_object-requires : goal.next_object-requires
next_object-requires c = search (rules, entered_within)

pub pour_row-n-requires : goal.pour_row-n-requires
pour_row-n-requires c = search entered_room

pub loop-a-smaller : goal.loop-a-smaller
loop-a-smaller c = search walks_less

pub loop-a-preserved : goal.loop-a-preserved
loop-a-preserved c = search entered_region

pub shape_of-out-in-Bad : goal.shape_of-out-in-Bad
shape_of-out-in-Bad c = search entered_same

pub returns-in-Bad : goal.returns-in-Bad
returns-in-Bad c = search entered_bad

pub shape_of-out-in-Over : goal.shape_of-out-in-Over
shape_of-out-in-Over c = search entered_same

pub returns-in-Over : goal.returns-in-Over
returns-in-Over c = search entered_over
