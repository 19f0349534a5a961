pub mod Emitted
pub mod Lowerable
pub mod Exits
