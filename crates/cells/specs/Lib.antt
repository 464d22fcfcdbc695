pub mod Bytes
pub mod Reply
pub mod ByteLaws
pub mod BackLaws
pub mod ReplyLaws
pub mod CellLaws
pub mod Poured
pub mod PouredLaws
