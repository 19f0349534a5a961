pub mod Written
pub mod Allowed
pub mod Slots
