pub mod RunLaws
