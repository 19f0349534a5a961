pub mod CommandLaws
pub mod InvocationLaws
pub mod FrontLaws
pub mod NumberLaws
pub mod SettingsLaws
