pub mod KeptLaws
pub mod AimLaws
pub mod SpreadLaws
pub mod KnownLaws
pub mod CircleLaws
pub mod WalkLaws
pub mod JumpLaws
pub mod FirstLaws
