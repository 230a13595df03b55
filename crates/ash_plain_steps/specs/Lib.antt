pub mod StateViews
pub mod Consistency
pub mod TaskViews
pub mod StepViews
