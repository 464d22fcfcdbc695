pub mod CursorLaws
pub mod ListLaws
