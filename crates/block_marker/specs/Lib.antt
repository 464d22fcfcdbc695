pub mod Marker
pub mod MarkerLaws
pub mod MarkerRun
