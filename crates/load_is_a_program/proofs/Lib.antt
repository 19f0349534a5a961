pub mod Lexing
pub mod Parse
pub mod Rules
pub mod Pieces
pub mod Numbers
pub mod Law
