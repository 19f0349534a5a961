pub mod Wrong
pub mod Programs
