pub mod NestLaws
pub mod SpelledLaws
pub mod StatementNests
