pub mod ChangedLists
pub mod SlotLaws
pub mod ShownLaws
pub mod CellLaws
