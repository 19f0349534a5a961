pub mod StackLaws
pub mod ValueLaws
pub mod ActLaws
pub mod PlaceLaws
pub mod SettleLaws
pub mod LookLaws
pub mod AnswerLaws
