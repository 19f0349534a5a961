pub mod Stacks
pub mod Moves
pub mod Acts
pub mod Frames
pub mod View
pub mod Doing
