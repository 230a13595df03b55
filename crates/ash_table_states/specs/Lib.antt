pub mod TableStates
pub mod SavedObjects
pub mod WrittenObjects
pub mod WrittenStates
