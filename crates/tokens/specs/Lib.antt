pub mod Fronts
pub mod Inner
pub mod Tokens
pub mod Chunks
pub mod Settling
