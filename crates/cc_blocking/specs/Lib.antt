pub mod Conduct
pub mod Rounds
