pub mod Meanings
pub mod Verdicts
