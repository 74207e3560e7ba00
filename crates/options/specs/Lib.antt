pub mod Types
pub mod Stored
pub mod Casings
pub mod Forms
