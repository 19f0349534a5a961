pub mod View
pub mod Kept
pub mod First
pub mod Spread
pub mod Circles
pub mod Faults
