pub mod Listing
pub mod ServicesLead
pub mod ModulesLead
pub mod ObjectsLead
pub mod ChangesLead
pub mod ObjectsFit
pub mod ListedFit
pub mod BodiesLead
