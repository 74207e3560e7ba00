pub mod Numbered
pub mod Stood
pub mod Leads
