pub mod Begun
pub mod Wrong
pub mod Assigned
pub mod Nothing
pub mod Moved
pub mod Inside
pub mod Sent
