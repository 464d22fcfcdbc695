pub mod Fence
pub mod Steps
pub mod Laws
pub mod Run
