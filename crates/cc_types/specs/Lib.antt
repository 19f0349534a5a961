pub mod Elaboration
pub mod Program
