pub mod Lessons
pub mod Samples
