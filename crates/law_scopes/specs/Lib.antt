pub mod Variables
pub mod Uses
pub mod Text
