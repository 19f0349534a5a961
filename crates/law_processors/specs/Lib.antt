pub mod Processors
pub mod Living
pub mod Alone
pub mod Machine
pub mod Busy
pub mod Orderly
pub mod Follow
pub mod Whole
