pub mod BoundLaws
pub mod StatementBounds
