pub mod Cursor
pub mod Shape
pub mod ShapeLaws
