pub mod Replaying
pub mod Once
pub mod HostStatesRead
pub mod Names
pub mod Adding
pub mod Faultless
