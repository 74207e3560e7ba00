pub mod Bytes
pub mod Cases
pub mod Numbers
