pub mod UncalledServices
pub mod MarkedObjects
pub mod ChangedStates
