pub mod Cased
pub mod Values
pub mod Examples
pub mod RoundTrip
