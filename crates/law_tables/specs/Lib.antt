pub mod Fields
pub mod Ids
