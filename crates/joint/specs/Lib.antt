pub mod Joint
pub mod JointLaws
