pub mod Machine
pub mod Looks
pub mod Changes
pub mod Effects
pub mod Steps
pub mod Posts
pub mod Stands
pub mod Alike
