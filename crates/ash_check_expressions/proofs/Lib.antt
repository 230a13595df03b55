pub mod Loops
pub mod Nodes
