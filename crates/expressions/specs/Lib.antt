pub mod Expressions
pub mod Operands
