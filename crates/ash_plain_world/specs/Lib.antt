pub mod Sweeping
pub mod ActivityViews
pub mod LocationViews
pub mod FlowViews
pub mod JointSteps
