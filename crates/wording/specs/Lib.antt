pub mod Lines
pub mod Names
pub mod Sentences
pub mod Entries
pub mod Records
pub mod Losses
