pub mod CalmLaws
pub mod WholeLaws
