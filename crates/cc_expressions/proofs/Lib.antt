pub mod CursorLaws
pub mod NestLaws
pub mod RepeatLaws
pub mod EndingLaws
pub mod FlatLaws
pub mod FitLaws
