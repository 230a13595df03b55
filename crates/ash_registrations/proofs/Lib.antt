pub mod Parameters
pub mod Mapped
pub mod Places
