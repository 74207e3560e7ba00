pub mod WellFormed
pub mod Correspondence
pub mod Samples
