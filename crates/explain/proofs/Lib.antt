pub mod TrueLaws
pub mod OnceLaws
pub mod WayLaws
pub mod AnswerLaws
