pub mod Spellings
pub mod Values
