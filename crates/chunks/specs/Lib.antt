pub mod Stored
pub mod Reading
pub mod Judging
pub mod Appending
pub mod Steps
