pub mod ObjectViews
pub mod CallViews
pub mod ClassViews
pub mod CallRuns
