pub mod Lists
pub mod Changes
pub mod Free
pub mod Numbers
pub mod Counts
pub mod Homes
pub mod Processors
pub mod Slots
