pub mod Agreement
pub mod NameIndex
pub mod EnvironmentViews
