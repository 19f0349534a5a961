pub mod Lines
pub mod Listings
pub mod Refusals
pub mod Refused
pub mod Requests
pub mod Shapes
pub mod Streams
