-- `settle` meets its contract. Assumes nothing.
use Rattle.amend.specs.SettleLaws.{ready_orderly, starts_few}
use Rattle.amending.specs.AmendingLaws.{two_fit_bytes, three_fit_bytes, bytes_open, planned, bytes_poured}
use Rattle.amending.proofs.settle.Goals as goal

pub starts_before-before-requires : goal.starts_before-before-requires
starts_before-before-requires c = search ready_orderly

pub starts_before-after-requires : goal.starts_before-after-requires
starts_before-after-requires c = search ready_orderly

pub overflow_add-total : goal.overflow_add-total
overflow_add-total c = search two_fit_bytes

pub overflow_sub-total : goal.overflow_sub-total
overflow_sub-total c = search starts_few

pub overflow_add-total-2 : goal.overflow_add-total-2
overflow_add-total-2 c = search three_fit_bytes

pub returns-then-left_open : goal.returns-then-left_open
returns-then-left_open c = search bytes_open

pub pour-requires : goal.pour-requires
pour-requires c = search planned

pub returns : goal.returns
returns c = search bytes_poured
