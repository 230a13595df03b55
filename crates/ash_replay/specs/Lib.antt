pub mod Replay
pub mod ReplayFaults
pub mod ReplaySteps
pub mod ReplayedStates
