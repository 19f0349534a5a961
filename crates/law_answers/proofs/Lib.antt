pub mod Numbers
pub mod FirstLaws
