pub mod Composed
pub mod WalkedExpressions
pub mod WalkedStatements
pub mod Turns
pub mod Labels
