-- `is_joint` meets its contract. Assumes nothing.
use Rattle.amend.specs.JointLaws.{joint-line, joint_on}
use Rattle.amend.proofs.joints.is_joint.Goals as goal

pub returns-then-after_empty_line : goal.returns-then-after_empty_line
returns-then-after_empty_line c = search joint_on

pub returns-else-after_empty_line : goal.returns-else-after_empty_line
returns-else-after_empty_line c = search joint-line
