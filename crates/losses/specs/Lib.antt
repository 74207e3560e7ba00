pub mod Lost
pub mod Visits
