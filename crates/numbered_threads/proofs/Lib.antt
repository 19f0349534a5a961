pub mod Numbered
pub mod WayLaws
pub mod ValidLaws
pub mod QuietLaws
