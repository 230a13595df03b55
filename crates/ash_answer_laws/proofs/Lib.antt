pub mod Taking
pub mod Leaving
pub mod StepsLeave
pub mod PhrasesLeave
pub mod RunsLeave
pub mod RequestsLeave
