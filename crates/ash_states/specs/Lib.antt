pub mod HostStates
pub mod StateSteps
pub mod Images
pub mod Holding
pub mod Indexes
pub mod StateRestoring
pub mod Writing
