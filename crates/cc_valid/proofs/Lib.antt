pub mod Aims
pub mod Found
pub mod Targets
pub mod Reached
pub mod Law
