pub mod Reasons
pub mod Examples
pub mod LedLaws
pub mod SheetLines
pub mod Parts
