pub mod ScriptFaults
pub mod WalkViews
pub mod Checks
pub mod CheckedModules
