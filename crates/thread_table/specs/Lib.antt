pub mod LiveThread
pub mod Numbers
pub mod Lends
pub mod Table
