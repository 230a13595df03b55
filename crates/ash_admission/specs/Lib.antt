pub mod Places
pub mod Values
pub mod Contents
pub mod Admission
