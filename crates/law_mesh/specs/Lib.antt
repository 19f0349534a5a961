pub mod Spots
pub mod Queues
pub mod Moves
pub mod Shows
pub mod Local
pub mod Rest
pub mod Begins
pub mod Source
