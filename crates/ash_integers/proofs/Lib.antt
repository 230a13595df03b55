pub mod Division
pub mod Shifting
