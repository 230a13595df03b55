pub mod Positions
pub mod Reports
