pub mod Items
pub mod Leaves
pub mod Records
pub mod Fielded
pub mod Classes
pub mod Spans
