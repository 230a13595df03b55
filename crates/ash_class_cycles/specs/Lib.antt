pub mod Paths
pub mod Marking
pub mod ClassReferences
pub mod ReportedCycle
