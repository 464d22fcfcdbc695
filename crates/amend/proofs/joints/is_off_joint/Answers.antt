-- `is_off_joint` meets its contract. Assumes nothing.
use Rattle.amend.specs.RowLaws.{fair_orderly}
use Rattle.amend.specs.JointLaws.{cut-first, cut_end, cut_on}
use Rattle.amend.proofs.joints.is_off_joint.Goals as goal

pub is_joint-requires : goal.is_joint-requires
is_joint-requires c = search fair_orderly

pub is_joint-requires-then-second-src : goal.is_joint-requires-then-second-src
is_joint-requires-then-second-src c = search fair_orderly

pub returns-then-not-is_joint : goal.returns-then-not-is_joint
returns-then-not-is_joint c = search cut-first

pub returns-then-second-src : goal.returns-then-second-src
returns-then-second-src c = search cut_on

pub returns-else-second-src : goal.returns-else-second-src
returns-else-second-src c = search cut_end
