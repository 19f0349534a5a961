-- Which texts are sources, and why another is refused.
pub mod Source
