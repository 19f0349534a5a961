-- How a list and a box stand in a type that holds itself, as a tree does.
pub mod formers
-- What a shelf holds, what was written to a sink, and the counts of their faults.
pub mod Count
pub mod Fake
pub mod Shelf
pub mod Sink
