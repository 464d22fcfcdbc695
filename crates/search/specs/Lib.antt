pub mod Promise
pub mod Search
pub mod SearchLaws
