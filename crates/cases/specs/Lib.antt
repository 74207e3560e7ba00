pub mod Cases
pub mod Uses
