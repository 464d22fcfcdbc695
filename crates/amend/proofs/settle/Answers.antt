-- `settle` meets its contract. Assumes nothing.
use Rattle.amend.specs.SettleLaws.{settled_open, ready_orderly, starts_few, two_fit, three_fit, settled_full, roomy, settled_done}
use Rattle.amend.proofs.settle.Goals as goal

pub starts_before-before-requires : goal.starts_before-before-requires
starts_before-before-requires c = search ready_orderly

pub starts_before-after-requires : goal.starts_before-after-requires
starts_before-after-requires c = search ready_orderly

pub overflow_add-total : goal.overflow_add-total
overflow_add-total c = search two_fit

pub overflow_sub-total : goal.overflow_sub-total
overflow_sub-total c = search starts_few

pub overflow_add-total-2 : goal.overflow_add-total-2
overflow_add-total-2 c = search three_fit

pub returns-then-left_open : goal.returns-then-left_open
returns-then-left_open c = search settled_open

pub returns-then-out-total : goal.returns-then-out-total
returns-then-out-total c = search settled_full

pub write-requires : goal.write-requires
write-requires c = search roomy

pub returns : goal.returns
returns c = search settled_done
