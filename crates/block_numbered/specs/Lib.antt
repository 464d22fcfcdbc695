pub mod Numbered
pub mod DigitLaws
pub mod NumberedLaws
pub mod NumberedRun
