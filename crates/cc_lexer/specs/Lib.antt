-- Which texts are cut into which tokens, and which fault is the first where a text is not cut.
pub mod Spelling
pub mod Cut
pub mod Faults
pub mod Lexemes
pub mod Next
pub mod Keywords
