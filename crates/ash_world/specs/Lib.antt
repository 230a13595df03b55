pub mod Chests
