pub mod Functions
pub mod Builds
pub mod BuildNests
pub mod OwnNests
pub mod Constructors
pub mod Items
