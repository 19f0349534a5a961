pub mod HeldObjects
pub mod LockTable
