pub mod CheckLaws
pub mod FieldLaws
pub mod ExactLaws
pub mod MethodLaws
pub mod CheckedLaws
pub mod Walks
pub mod Rows
