-- `judge` meets its contract. Assumes nothing.
use Rattle.amend.specs.JudgeLaws.{judged_early, judged-list, judged-marked, judged_fair, judged-joint, judged_fine}
use Rattle.amend.proofs.judge.Goals as goal

pub returns-then-is_misshapen : goal.returns-then-is_misshapen
returns-then-is_misshapen c = search judged-list

pub returns-then-flaws : goal.returns-then-flaws
returns-then-flaws c = search judged-marked

pub is_off_joint-requires : goal.is_off_joint-requires
is_off_joint-requires c = search judged_fair

pub returns-then-is_off_joint : goal.returns-then-is_off_joint
returns-then-is_off_joint c = search judged-joint

pub returns-in-Err : goal.returns-in-Err
returns-in-Err c = search judged_early

pub returns-else-is_off_joint : goal.returns-else-is_off_joint
returns-else-is_off_joint c = search judged_fine
