pub mod Formatting
pub mod Demands
