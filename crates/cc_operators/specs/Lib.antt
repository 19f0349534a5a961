pub mod Folding
pub mod Operators
