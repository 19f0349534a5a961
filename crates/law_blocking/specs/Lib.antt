pub mod Parts
pub mod Calm
