pub mod Values
pub mod Moves
pub mod Law
