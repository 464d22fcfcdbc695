pub mod Building
pub mod PourLaws
pub mod BackLaws
