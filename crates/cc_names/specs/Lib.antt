pub mod Rules
pub mod Broken
pub mod Table
pub mod Declarations
pub mod Group
pub mod Names
