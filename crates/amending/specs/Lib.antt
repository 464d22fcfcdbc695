pub mod Amending
pub mod ByteParts
pub mod WriteLaws
pub mod AmendingLaws
pub mod DemandBytes
