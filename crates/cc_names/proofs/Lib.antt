pub mod LeastLaws
pub mod TableLaws
