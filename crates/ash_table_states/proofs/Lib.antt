pub mod SlotNames
pub mod Shown
pub mod Stored
pub mod Listed
pub mod Paired
pub mod Saved
pub mod Written
