pub mod Fits
pub mod Nests
pub mod Parts
