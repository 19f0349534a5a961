pub mod CountLemmas
pub mod FakeLemmas
pub mod ShelfLemmas
pub mod StreamLemmas
