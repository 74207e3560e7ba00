pub mod Characters
pub mod Ink
pub mod Lines
pub mod Accepted
pub mod Numbers
pub mod Stores
pub mod Literals
