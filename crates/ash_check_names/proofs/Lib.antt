pub mod Locals
pub mod IndexLaws
pub mod Rows
