pub mod Pieces
pub mod Layout
pub mod Setting
pub mod Promise
pub mod Moving
pub mod Samples
