pub mod Events
pub mod Running
pub mod Holding
