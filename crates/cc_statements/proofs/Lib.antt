pub mod LoopLaws
pub mod NestLaws
