pub mod Greatest
pub mod ClassesAt
pub mod Indexes
pub mod Ranked
pub mod ShownTables
pub mod Sweeps
