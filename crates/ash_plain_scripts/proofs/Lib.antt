pub mod Failing
pub mod Calling
pub mod Initializing
pub mod Loading
