pub mod NameLaws
pub mod ViewLaws
pub mod Maps
pub mod StepLaws
pub mod Forks
pub mod Fresh
pub mod Stays
