pub mod JournalLaws
pub mod LineLaws
pub mod ReadLaws
pub mod WordLaws
pub mod WriteLaws
