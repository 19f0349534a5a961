pub mod Assignments
pub mod Declarations
pub mod Simple
pub mod Statements
pub mod Nests
