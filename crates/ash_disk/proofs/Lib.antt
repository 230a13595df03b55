mod CallLaws
pub mod MomentLaws
pub mod TornLaws
pub mod DeviceLaws
