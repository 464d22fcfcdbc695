pub mod Hiding
pub mod HidingLaws
pub mod Sheeting
pub mod SheetingLaws
