pub mod Numbered
pub mod Quiet
