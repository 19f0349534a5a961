pub mod Turn
pub mod Round
pub mod Examples
