-- The text of the load program.
pub mod LoadSource
