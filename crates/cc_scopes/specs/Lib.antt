pub mod Types
pub mod Sharing
pub mod Places
pub mod Elab
pub mod Scope
pub mod Typed
pub mod Meaning
pub mod Lengths
