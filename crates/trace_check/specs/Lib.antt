pub mod Migration
pub mod Replays
pub mod Verdicts
