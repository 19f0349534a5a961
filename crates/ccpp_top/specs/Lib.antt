-- What the command answers, and why it ends with a status.
pub mod Answers
pub mod Checks
pub mod Decides
pub mod Loads
pub mod Traces
pub mod Messages
pub mod Migrations
pub mod Status
