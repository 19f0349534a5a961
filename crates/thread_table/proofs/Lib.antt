pub mod EndLaws
pub mod MadeLaws
pub mod NumberLaws
pub mod ReadLaws
pub mod RoomLaws
pub mod TableLaws
