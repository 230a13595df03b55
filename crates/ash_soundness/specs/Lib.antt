pub mod WellFormed
pub mod WellFormedLaws
pub mod WellFormedStates
pub mod ModuleExample
