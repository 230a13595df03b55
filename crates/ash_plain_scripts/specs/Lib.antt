pub mod EvaluatorViews
pub mod Bodies
pub mod Entering
pub mod EndViews
