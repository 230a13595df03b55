pub mod CheckedSource
pub mod Lexing
pub mod Scanning
pub mod Scripts
pub mod SourceFaults
pub mod Sources
pub mod TypedSource
