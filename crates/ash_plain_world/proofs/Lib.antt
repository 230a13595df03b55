pub mod Entries
pub mod Sweeps
pub mod Pools
pub mod Counts
