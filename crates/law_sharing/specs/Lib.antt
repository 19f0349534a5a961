pub mod Addresses
pub mod Placed
