pub mod Keeping
pub mod StepsKeep
pub mod PhrasesKeep
pub mod RunsKeep
pub mod RequestsKeep
pub mod MarkedObjects
pub mod ChangedStates
