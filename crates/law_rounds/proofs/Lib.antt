pub mod Kept
pub mod Hands
pub mod Turns
pub mod Order
pub mod Rounds
pub mod Limits
pub mod AtOnce
pub mod Examples
