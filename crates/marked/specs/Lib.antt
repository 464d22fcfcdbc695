pub mod Page
pub mod Marked
pub mod Requests
pub mod Dropped
