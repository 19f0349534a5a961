pub mod CopyLaws
pub mod Views
pub mod Pieces
pub mod EmittedLaws
pub mod ProgramLaws
pub mod OneFunction
pub mod Kept
