pub mod Calls
pub mod Objects
pub mod New
pub mod Parts
pub mod Expr
pub mod Nests
pub mod Whole
