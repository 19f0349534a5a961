pub mod MessageBytes
pub mod MigrationLaws
pub mod Steps
pub mod VerdictLaws
pub mod ReplayLaws
pub mod SaidLaws
pub mod EndLaws
pub mod TraceLaws
