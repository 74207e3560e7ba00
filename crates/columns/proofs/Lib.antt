pub mod Texts
pub mod Ink
pub mod Neatness
pub mod Length
pub mod Promises
pub mod Samples
pub mod Moving
