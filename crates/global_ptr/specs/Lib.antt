pub mod Texts
pub mod ReadyList
