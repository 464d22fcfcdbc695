pub mod Sheet
pub mod Parts
pub mod RunLaws
pub mod LeftLaws
pub mod ShowLaws
pub mod SheetLaws
pub mod BeginLaws
pub mod PageSheet
