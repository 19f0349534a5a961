pub mod Laws
pub mod NumberLaws
pub mod Steps
pub mod ValueLaws
