pub mod Texts
pub mod NameClasses
pub mod AcceptedRegistrations
pub mod RegistryText
pub mod Refusals
pub mod RegistryViews
