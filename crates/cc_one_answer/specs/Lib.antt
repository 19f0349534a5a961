pub mod Answer
pub mod Apart
pub mod Sorts
pub mod Determinate
pub mod Owned
