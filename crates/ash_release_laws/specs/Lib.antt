pub mod Settling
pub mod Held
pub mod Leaving
pub mod WrongMeanings
pub mod SafePoints
