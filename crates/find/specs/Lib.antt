pub mod Blocks
pub mod BlockLaws
pub mod NeedleLaws
