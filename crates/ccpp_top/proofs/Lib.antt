pub mod TraceLaws
pub mod AnswerLaws
mod CodeLaws
pub mod DecideLaws
pub mod LoadLaws
