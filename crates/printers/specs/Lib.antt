pub mod Going
pub mod Records
pub mod Texts
