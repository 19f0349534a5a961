pub mod Bools
pub mod RoundLaws
pub mod Deciding
