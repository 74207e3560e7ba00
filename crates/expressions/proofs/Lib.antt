pub mod Cycle
pub mod Operands
pub mod Stands
pub mod StringItems
