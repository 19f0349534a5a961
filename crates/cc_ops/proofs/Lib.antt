pub mod Exprs
pub mod Writes
