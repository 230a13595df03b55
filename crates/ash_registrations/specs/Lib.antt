pub mod Registrations
pub mod Names
pub mod Text
pub mod Registered
pub mod Added
