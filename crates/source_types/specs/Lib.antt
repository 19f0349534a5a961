pub mod TypesOf
pub mod Reading
